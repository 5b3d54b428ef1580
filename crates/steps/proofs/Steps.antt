-- The plan of steps 1 to 3 opens the circuit, in a table that meets the ring rules, for whatever request its ports permit. Assumes nothing.
use Prim.Native.Nat.{ℕ, ◌≤◌, ◌<◌}
use mathlib.Core.Path.{◌≡◌, refl, sym, ◌∙◌}
use mathlib.Core.Logic.{◌≢◌, inl, inr}
use mathlib.Core.Bool.{Bool, true, false, true≢false}
use mathlib.Core.List.{List}
use native.Mathlib.Omega.{arith}
use lib.Dec.{ltb}
use borrow.Author.Tests.{ltb-true, ltb-false, lt-ltb}
use Rattle.basis.specs.Choice.{pick}
use Rattle.basis.specs.Search.{pairs_of}
use Rattle.basis.proofs.Bools.{and_right, and_both}
use Rattle.basis.proofs.Search.{found_passes}
use Rattle.lightpath.specs.Place.{direction_of}
use Rattle.lightpath.specs.Circuit.{adjacent, can_share, share_direction}
use Rattle.lightpath.specs.declared.Direction.{Direction}
use Rattle.lightpath.specs.declared.Circuit.{Circuit}
use Rattle.lightpath.proofs.Share.{can_swap, can_one}
use Rattle.slots.specs.Slot.{is_alone}
use Rattle.channels.specs.Channels.{Channels}
use Rattle.channels.specs.Nonsharing.{standing_at, adjacent_pair}
use Rattle.channels.specs.declared.Standing.{Standing}
use Rattle.channels.proofs.Nonsharing.{Stands, Lower, stands_alone}
use Rattle.ports.specs.Ports.{limit_of}
use Rattle.rules.specs.Allowable.{Allowable}
use Rattle.rules.proofs.Rules.{Rules, limits_hold}
use Rattle.steps.specs.Plan.{joining, lighting, one_move, two_moves, three_moves}
use Rattle.steps.specs.Steps.{join_place, unlit_place, nowhere, newcomer, candidates, found_pair, looks, stands_right, lowest_alone, x_of, rearranging, step_three, plan_of}
use Rattle.steps.proofs.Five.{Good, joined, lighted, one_moved, two_moved, three_moved}
use Rattle.steps.proofs.Searches.{join_stands, join_can, none_joins, lowest_passes, lowest_direction}
use Rattle.steps.proofs.ShorterWay.{unlit_found}
use Rattle.steps.proofs.Candidates.{Candidate, found_couple}
use Rattle.steps.proofs.Step3.{ready}

module _ (N : ℕ) (ks : List ℕ) (t : Channels) (c : Circuit) (rules : Rules N ks t) (may : Allowable N ks t c) where
  -- the limit
  abbrev m : ℕ
  m = limit_of ks

  -- step 1
  by_joining : join_place N m t c < m → Good N ks t c (joining c (standing_at t (join_place N m t c)))
  by_joining l = joined N ks t c rules may (standing_at t (join_place N m t c)) (join_stands N m t c l) (join_can N m t c l)

  -- step 2
  by_lighting : unlit_place N m t c < m → Good N ks t c (lighting c (unlit_place N m t c))
  by_lighting l = lighted N ks t c rules may (unlit_place N m t c) l (unlit_found N m t c l)

  -- step 3, where neither of the first two finds a place
  module _ (j : m ≤ join_place N m t c) (u : m ≤ unlit_place N m t c) where
    -- an old one stands somewhere
    low : (s : Standing) → Stands m t s → s.place < nowhere
    low s h = let k = limits_hold N ks t rules in omega arith

    -- x, of direction d, stands at its place
    x_stands : (d : Direction) → Stands m t (standing_at t (lowest_alone m t d))
    x_stands d =
        let l = (ready N ks t c rules may).lane j u d in
        stands_alone m t (lowest_alone m t d) l (lowest_passes is_alone m t d l)

    module _ (a b : Standing) (adj : adjacent a.circuit b.circuit ≡ true) where
      -- the pair can share at its place
      x_can : can_share N (direction_of (x_of N m t a b).place) a.circuit b.circuit ≡ true
      x_can =
          let d = share_direction N a.circuit b.circuit in
          rw (lowest_direction is_alone m t d ((ready N ks t c rules may).lane j u d)) (can_one N a.circuit b.circuit adj)

      -- so x is no member that does not stand right
      x_apart : (s : Standing) → Stands m t s → stands_right N a b s ≡ false → (x_of N m t a b).place ≢ s.place
      x_apart s h f e = true≢false (sym (and_both _ _ (lt-ltb _ _ (low s h)) (rw e at x_can)) ∙ f)

    -- two old members
    old_old : (a b : Standing) (k : ℕ) → Stands m t a → Stands m t b → a.place < b.place → adjacent a.circuit b.circuit ≡ true
        → Good N ks t c (rearranging N c (x_of N m t a b) a b k)
    old_old a b k sa sb l adj = go (stands_right N a b a) refl (stands_right N a b b) refl
      where
        x : Standing
        x = x_of N m t a b

        go : (o : Bool) → stands_right N a b a ≡ o → (r : Bool) → stands_right N a b b ≡ r
            → Good N ks t c (pick o (one_move c a b k) (pick r (one_move c b a k) (pick (ltb b.place nowhere) (three_moves c x a b k) (two_moves c x a k))))
        go true e r f = one_moved N ks t c rules may a b k sa sb (omega arith) (and_right (ltb a.place nowhere) _ e)
        go false e true f =
            one_moved N ks t c rules may b a k sb sa (omega arith)
            (can_swap N (direction_of b.place) a.circuit b.circuit (and_right (ltb b.place nowhere) _ f))
        go false e false f =
            rw (lt-ltb b.place nowhere (low b sb))
            (three_moved N ks t c rules may x a b k (x_stands (share_direction N a.circuit b.circuit)) sa sb
            (x_apart a b adj a sa e) (x_apart a b adj b sb f) (omega arith) (x_can a b adj))

    -- an old member and the new circuit: the old one does not stand right, "since step 1 would have otherwise applied"
    old_new : (a : Standing) (k : ℕ) → Stands m t a → adjacent a.circuit c ≡ true
        → Good N ks t c (rearranging N c (x_of N m t a (newcomer c)) a (newcomer c) k)
    old_new a k sa adj = go (stands_right N a (newcomer c) a) refl
      where
        x : Standing
        x = x_of N m t a (newcomer c)

        go : (o : Bool) → stands_right N a (newcomer c) a ≡ o → Good N ks t c (pick o (one_move c a (newcomer c) k) (two_moves c x a k))
        go true e = absurd (true≢false (sym (and_right (ltb a.place nowhere) _ e) ∙ none_joins N m t c j a sa))
        go false e =
            two_moved N ks t c rules may x a k (x_stands (share_direction N a.circuit c)) sa (x_apart a (newcomer c) adj a sa e) (x_can a (newcomer c) adj)

    -- two candidates by rising place
    rearranged : (a b : Standing) (k : ℕ) → Stands m t a → Candidate m t c b → Lower a b → adjacent a.circuit b.circuit ≡ true
        → Good N ks t c (rearranging N c (x_of N m t a b) a b k)
    rearranged a b k sa (inl sb) l adj = old_old a b k sa sb l adj
    rearranged a b k sa (inr e) l adj = rw e (old_new a k sa (rw e at adj))

    -- the pair found is two such
    by_rearranging : Good N ks t c (step_three N m t c)
    by_rearranging =
        let k = limits_hold N ks t rules in
        let found = (ready N ks t c rules may).pair j u in
        let f = found_couple m t c (omega arith) k.below found in
        rearranged (found_pair m t c).0 (found_pair m t c).1 (looks m t c) f.0 f.1 f.2
        (found_passes adjacent_pair (newcomer c, newcomer c) (pairs_of (candidates m t c)) found)

  -- 02, E6: "Serving every opening that the ports permit, with three moves at most": in a table that meets the ring rules the steps place
  -- every circuit that the ports permit
  pub plan_serves : Good N ks t c (plan_of N (limit_of ks) t c)
  unfolding plan_of
  plan_serves = go (ltb (join_place N m t c) m) refl (ltb (unlit_place N m t c) m) refl
    where
      go : (o : Bool) → ltb (join_place N m t c) m ≡ o → (r : Bool) → ltb (unlit_place N m t c) m ≡ r
          → Good N ks t c (pick o (joining c (standing_at t (join_place N m t c))) (pick r (lighting c (unlit_place N m t c)) (step_three N m t c)))
      go true e r f = by_joining (ltb-true _ _ e)
      go false e true f = by_lighting (ltb-true _ _ f)
      go false e false f = by_rearranging (ltb-false _ _ e) (ltb-false _ _ f)
