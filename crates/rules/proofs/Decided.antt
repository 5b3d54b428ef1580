-- The ring rules decided one after the other, in the order in which the code tests them. Assumes nothing.
use Prim.Native.Nat.{ℕ}
use mathlib.Core.Path.{◌≡◌, refl, sym, ◌∙◌}
use mathlib.Core.Bool.{Bool, true, false, ◌&&◌}
use mathlib.Core.List.{List}
use lib.ListN.{length}
use borrow.Author.Tests.{eq-eqb}
use Rattle.basis.specs.Count.{distinct}
use Rattle.basis.specs.Search.{every_below}
use Rattle.basis.proofs.Bools.{and_both}
use Rattle.basis.proofs.Branch.{and_true, and_stop}
use Rattle.limits.specs.Limits.{place_count, port_fields}
use Rattle.channels.specs.Channels.{Channels, at, circuits}
use Rattle.ports.specs.Ports.{limit_of, limits, spare_zero}
use Rattle.rules.specs.Rules.{sized, unlit_from, ends, ports_hold, shares, ring_rules}
use Rattle.rules.specs.EachPlace.{places_hold}
use Rattle.rules.proofs.EachPlace.{two_rules}

module _ (N : ℕ) (ks : List ℕ) (t : Channels) where
  -- the tests before the last
  abbrev pub first_tests : Bool
  first_tests =
      limits N ks && unlit_from (limit_of ks) t && places_hold N t && (distinct (λ c. c.number) (circuits t) && ports_hold 1 ks (circuits t))

  -- the rules in this order
  in_order : length ks ≡ port_fields → length t ≡ place_count → ring_rules N ks t ≡ (first_tests && spare_zero N ks)
  in_order fields places =
      rw (two_rules N t, sizes)
      (swap (limits N ks) (unlit_from (limit_of ks) t) (every_below place_count (λ p. ends N (at t p))) (distinct (λ c. c.number) (circuits t))
      (ports_hold 1 ks (circuits t)) (every_below place_count (λ p. shares N p (at t p))) (spare_zero N ks))
    where
      sizes : sized ks t ≡ true
      sizes = and_both _ _ (eq-eqb (length ks) port_fields fields) (eq-eqb (length t) place_count places)

      swap : (l u e d p s z : Bool) → (l && true && u && e && d && p && s && z) ≡ (l && u && (e && s) && (d && p) && z)
      swap false u e d p s z = refl
      swap true false e d p s z = refl
      swap true true false d p s z = refl
      swap true true true false p false z = refl
      swap true true true false p true z = refl
      swap true true true true false false z = refl
      swap true true true true false true z = refl
      swap true true true true true false z = refl
      swap true true true true true true z = refl

  module _ (a r : Bool) (fields : length ks ≡ port_fields) (places : length t ≡ place_count) (e : a ≡ first_tests) where
    -- all of them pass, and the answer is the last one's
    pub go_on : a ≡ true → r ≡ spare_zero N ks → r ≡ ring_rules N ks t
    go_on h k = and_true first_tests (spare_zero N ks) r (sym e ∙ h) k ∙ sym (in_order fields places)

    -- or one does not
    pub stop : a ≡ false → r ≡ false → r ≡ ring_rules N ks t
    stop h k = and_stop first_tests (spare_zero N ks) r (sym e ∙ h) k ∙ sym (in_order fields places)
