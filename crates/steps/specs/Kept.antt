-- What an opening or a closing keeps, from the places t to the places t' of a ring of N nodes with the port counts ks. Assumes nothing.
-- States the laws of opening and closing. Serves proofs inside only.
use Rattle.std.specs.Prelude.{ℕ, ◌+◌, ◌≤◌, ◌<◌, ◌≡◌, true, List, [], ◌∷◌, length}
use Rattle.basis.specs.Choice.{bit}
use Rattle.basis.specs.Count.{weigh, tally, All}
use Rattle.lightpath.specs.declared.Circuit.{Circuit}
use Rattle.channels.specs.Channels.{Channels, at, circuits, where_is}
use Rattle.moves.specs.declared.Move.{Move}
use Rattle.moves.specs.Records.{most_moves}
use Rattle.ports.specs.Ports.{limit_of}
use Rattle.rules.specs.Rules.{ring_rules, carried}
use Rattle.steps.specs.Following.{followed}
use Rattle.steps.specs.Moved.{moved, Names}

-- the circuits of the list gone go, those of new come, and the records ms name those that move
pub record Kept (N : ℕ) (ks : List ℕ) (t : Channels) (gone new : List Circuit) (t' : Channels) (ms : List Move) : Type 0 where
  -- the ring rules are met again
  pub rules : ring_rules N ks t' ≡ true
  -- however circuits are weighed, the second table and those gone weigh what the first and the new ones do
  pub exact : (w : Circuit → ℕ) → weigh w (circuits t') + weigh w gone ≡ weigh w new + weigh w (circuits t)
  -- the number of moves is the number of circuits that have moved
  pub count : length ms ≡ weigh (λ x. bit (moved t t' x)) (circuits t)
  -- each record names such a circuit, with both places
  pub named : All (Names t t') ms
  -- a circuit that has moved is named once, and no other is
  pub once : All (λ x. tally (λ m. m.number) x.number ms ≡ bit (moved t t' x)) (circuits t)
  -- no directed wavelength carries two lightpaths over one link
  pub links : (q l : ℕ) → 1 ≤ l → l ≤ N → carried N t' q l ≤ 1

-- the circuit c is opened at place p
pub record PlanKeeps (N : ℕ) (ks : List ℕ) (t : Channels) (c : Circuit) (t' : Channels) (p : ℕ) (ms : List Move) : Type 0 where
  pub kept : Kept N ks t [] (c ∷ []) t' ms
  -- the place taken is the new circuit's in the second table
  pub placed : where_is t' c.number ≡ p
  -- it is usable
  pub usable : p < limit_of ks
  -- places from the limit up hold what they held
  pub above : (q : ℕ) → limit_of ks ≤ q → at t' q ≡ at t q
  -- at most three have moved
  pub few : length ms ≤ most_moves
  -- a host that takes the listed circuits down, then sets each up at its new place and the new one at the place taken, has the second table
  pub follows : followed t ms c p ≡ t'
