-- On a ring that meets the rules at most one circuit of a place uses a link. The question is answered with its number, and with none where
-- no circuit there uses it. Assumes nothing.
use Prim.Native.Nat.{ℕ, ◌≤◌, ◌<◌}
use mathlib.Core.Path.{◌≡◌, refl, sym, ◌∙◌}
use mathlib.Core.Bool.{Bool, true, false}
use mathlib.Core.List.{List, [], ◌∷◌}
use native.Mathlib.Omega.{arith}
use borrow.Author.Tests.{lt-ltb, le-leb}
use Rattle.basis.specs.Choice.{bit}
use Rattle.basis.specs.Count.{weigh, All}
use Rattle.basis.proofs.Bools.{all_map}
use Rattle.basis.proofs.Weigh.{weigh_zero}
use Rattle.lightpath.specs.Place.{side_of, place_of}
use Rattle.lightpath.specs.Circuit.{uses, users}
use Rattle.lightpath.specs.declared.Circuit.{Circuit}
use Rattle.lightpath.specs.declared.Direction.{Direction}
use Rattle.lightpath.specs.declared.Direction.TheVariants.{Clockwise as clockwise, Counterclockwise as counterclockwise}
use Rattle.lightpath.proofs.Places.{direction_place}
use Rattle.slots.specs.Slot.{held}
use Rattle.channels.specs.Channels.{at}
use Rattle.ports.specs.Ports.{wavelengths}
use Rattle.rules.proofs.Fits.{rules_links}
use Rattle.ring.specs.Table.{meets_rules}
use Rattle.ring.specs.declared.RingTable.{RingTable}
use Rattle.ring.proofs.TableRules.{table_rules}
use Rattle.link_question.specs.Link.{no_circuit, running, circuit_on, link_verdict, link_of}

-- some circuits, lightpaths in direction d, and link l
module _ (N : ℕ) (d : Direction) (l : ℕ) where
  -- the number found is that of each that uses the link, where at most one does
  running_each : (cs : List Circuit) → weigh (λ c. bit (uses N d c l)) cs ≤ 1 → All (λ c. uses N d c l ≡ true → running N d l cs ≡ c.number) cs
  unfolding running
  running_each [] h = tt
  running_each (x ∷ xs) h = go (uses N d x l) refl (λ k. running_each xs k)
    where
      go : (o : Bool) → uses N d x l ≡ o
          → (weigh (λ c. bit (uses N d c l)) xs ≤ 1 → All (λ c. uses N d c l ≡ true → running N d l xs ≡ c.number) xs)
          → All (λ c. uses N d c l ≡ true → running N d l (x ∷ xs) ≡ c.number) (x ∷ xs)
      go true e rest =
          let others : weigh (λ c. bit (uses N d c l)) xs ≡ 0 = omega (arith, rw e at h) in (
            λ u. rw e,
            all_map (λ c. bit (uses N d c l) ≡ 0) _ (λ c z u. let one : 1 ≡ 0 = rw u at z in absurd (omega arith)) xs
                (weigh_zero (λ c. bit (uses N d c l)) xs others),
          )
      go false e rest = (
        λ u. let no : true ≡ false = sym u ∙ e in cc,
        all_map (λ c. uses N d c l ≡ true → running N d l xs ≡ c.number) _ (λ c f u. rw e (f u)) xs (rest (omega (arith, rw e at h))),
      )

  -- and none where none does
  running_none : (cs : List Circuit) → All (λ c. uses N d c l ≡ false) cs → running N d l cs ≡ no_circuit
  unfolding running
  running_none [] h = refl
  running_none (x ∷ xs) h = rw h.0 (running_none xs h.1)

-- the circuits at the place of wavelength w in direction d
module _ (t : RingTable) (meets : meets_rules t ≡ true) (l w : ℕ) (d : Direction) (low : 1 ≤ l) (high : l ≤ t.nodes) where
  abbrev there : List Circuit
  there = held (at t.channels (place_of w d))

  -- Law: on a ring that meets the rules at most one circuit of a place uses a link
  pub one_runs : weigh (λ c. bit (uses t.nodes d c l)) there ≤ 1
  unfolding users
  one_runs =
      rw (direction_place w d) at
      (rules_links t.nodes t.ports t.channels (table_rules t meets) (place_of w d) l low high)

  module _ (below : w < wavelengths t.ports) where
    -- the question is not refused
    answered : link_of t l w (side_of d) ≡ circuit_on t l w d
    unfolding link_of link_verdict
    answered = side d
      where
        side : (d : Direction) → link_of t l w (side_of d) ≡ circuit_on t l w d
        side clockwise = simp (le-leb 1 l low, le-leb l t.nodes high, lt-ltb w (wavelengths t.ports) below)
        side counterclockwise = simp (le-leb 1 l low, le-leb l t.nodes high, lt-ltb w (wavelengths t.ports) below)

    -- 01: the circuit of the place that uses the link is the answer
    pub answer_runs : All (λ c. uses t.nodes d c l ≡ true → link_of t l w (side_of d) ≡ c.number) there
    answer_runs = rw answered (running_each t.nodes d l there one_runs)

    -- 01: the answer is none where no circuit of the place uses the link
    pub answer_none : All (λ c. uses t.nodes d c l ≡ false) there → link_of t l w (side_of d) ≡ no_circuit
    answer_none h = answered ∙ running_none t.nodes d l there h
