-- The five cases of an opening open it. Assumes nothing.
use Prim.Native.Nat.{ℕ, ◌<◌, zero-le}
use mathlib.Core.Path.{◌≡◌, refl, sym, ◌∙◌}
use mathlib.Core.Logic.{◌≢◌, inl, inr}
use mathlib.Core.Bool.{true}
use mathlib.Core.List.{List, [], ◌∷◌}
use native.Mathlib.Omega.{arith}
use lib.ListN.{length}
use Rattle.basis.proofs.Bools.{bit_eq}
use Rattle.lightpath.specs.Place.{direction_of}
use Rattle.lightpath.specs.Circuit.{joins, can_share}
use Rattle.lightpath.specs.declared.Circuit.{Circuit}
use Rattle.slots.specs.Slot.{held, together}
use Rattle.slots.specs.declared.Slot.TheVariants.{Unlit as unlit, Alone as alone}
use Rattle.slots.proofs.Contents.{of_number, together_weighs}
use Rattle.channels.specs.Channels.{Channels, at, numbered}
use Rattle.channels.specs.Change.{puts}
use Rattle.channels.specs.declared.Standing.{Standing}
use Rattle.channels.proofs.Places.{weigh_place}
use Rattle.channels.proofs.Nonsharing.{Stands}
use Rattle.ports.specs.Ports.{limit_of}
use Rattle.rules.specs.Rules.{fits}
use Rattle.rules.specs.Allowable.{Allowable}
use Rattle.rules.proofs.Rules.{Rules, limits_hold}
use Rattle.rules.proofs.Fits.{alone_fits, alone_joins, together_fits}
use Rattle.steps.specs.Plan.{Plan, joining, lighting, one_move, two_moves, three_moves}
use Rattle.steps.specs.Kept.{PlanKeeps}
use Rattle.steps.proofs.Sound.{Inside, has, old_place}
use Rattle.steps.proofs.Serves.{serves}

-- a plan that opens c
abbrev pub Good : ℕ → List ℕ → Channels → Circuit → Plan → Type 0
Good N ks t c plan = PlanKeeps N ks t c (puts plan.changes t) plan.taken plan.moves

-- a circuit is in what a place gets: alone, and as either of two
one : (x : Circuit) → Inside (alone x) x
one x = omega (arith, bit_eq x.number x.number refl)

pub left : (a b : Circuit) → Inside (together a b) a
left a b = omega (arith, together_weighs (of_number a.number) a b, bit_eq a.number a.number refl)

pub right : (a b : Circuit) → Inside (together a b) b
right a b = omega (arith, together_weighs (of_number b.number) a b, bit_eq b.number b.number refl)

module _ (N : ℕ) (ks : List ℕ) (t : Channels) (rules : Rules N ks t) where
  -- a usable place is a place of the table
  pub inside : (p : ℕ) → p < limit_of ks → p < length t
  inside p l = let k = limits_hold N ks t rules in omega arith

  -- a nonsharing circuit joins nodes of the ring
  ends : (m : Standing) → Stands (limit_of ks) t m → joins N m.circuit ≡ true
  ends m s = let k = limits_hold N ks t rules in alone_joins N m.place m.circuit (rw s.there at (rules.places m.place (omega arith)))

  -- so it fits alone at any place
  fits_alone : (p : ℕ) (m : Standing) → Stands (limit_of ks) t m → fits N p (alone m.circuit) ≡ true
  fits_alone p m s = alone_fits N p m.circuit (ends m s)

  -- two at two places have two numbers
  two_numbers : (a b : Standing) → Stands (limit_of ks) t a → Stands (limit_of ks) t b → a.place ≢ b.place → a.circuit.number ≢ b.circuit.number
  two_numbers a b sa sb n e =
      n (sym (old_place N ks t rules a.place a.circuit (has N ks t rules a sa))
      ∙ rw e (old_place N ks t rules b.place b.circuit (has N ks t rules b sb)))

  -- two fit together where they can share
  pub olds_fit : (p : ℕ) (a b : Standing) → Stands (limit_of ks) t a → Stands (limit_of ks) t b → a.place ≢ b.place
      → can_share N (direction_of p) a.circuit b.circuit ≡ true → fits N p (together a.circuit b.circuit) ≡ true
  olds_fit p a b sa sb n can = together_fits N p a.circuit b.circuit (ends a sa) (ends b sb) can (two_numbers a b sa sb n)

module _ (N : ℕ) (ks : List ℕ) (t : Channels) (c : Circuit) (rules : Rules N ks t) (may : Allowable N ks t c) where
  -- an old one and the new one fit together where they can share
  new_fits : (p : ℕ) (a : Standing) → Stands (limit_of ks) t a → can_share N (direction_of p) a.circuit c ≡ true
      → fits N p (together a.circuit c) ≡ true
  new_fits p a sa can = together_fits N p a.circuit c (ends N ks t rules a sa) may.ends can new_number
    where
      new_number : a.circuit.number ≢ c.number
      new_number e =
          let h : 0 < numbered c.number (held (at t a.place)) = rw e at (has N ks t rules a sa).1 in
          omega (arith, weigh_place t (of_number c.number) a.place, may.unused)

  -- step 1
  pub joined : (a : Standing) → Stands (limit_of ks) t a → can_share N (direction_of a.place) a.circuit c ≡ true → Good N ks t c (joining c a)
  joined a sa can =
      serves N ks t c (joining c a).changes a.place (a ∷ []) [] rules may
      (record {
        apart = (tt, tt);
        within = (inside N ks t rules a.place sa.low, tt);
        fit = (new_fits a.place a sa can, tt);
        took = λ w. rw sa.there (omega arith);
        gave = λ w. omega (arith, together_weighs w a.circuit c);
        stayed = ((has N ks t rules a sa, inl (refl, left a.circuit c)), tt);
        went = tt;
      }) (sa.low, tt) (inl (refl, right a.circuit c)) zero-le

  -- step 2
  pub lighted : (p : ℕ) → p < limit_of ks → at t p ≡ unlit → Good N ks t c (lighting c p)
  lighted p l e =
      serves N ks t c (lighting c p).changes p [] [] rules may
      (record {
        apart = (tt, tt);
        within = (inside N ks t rules p l, tt);
        fit = (alone_fits N p c may.ends, tt);
        took = λ w. rw e;
        gave = λ w. omega arith;
        stayed = tt;
        went = tt;
      }) (l, tt) (inl (refl, one c)) zero-le

  -- step 3a
  pub one_moved : (a b : Standing) (k : ℕ) → Stands (limit_of ks) t a → Stands (limit_of ks) t b → a.place ≢ b.place
      → can_share N (direction_of a.place) a.circuit b.circuit ≡ true → Good N ks t c (one_move c a b k)
  one_moved a b k sa sb n can =
      serves N ks t c (one_move c a b k).changes b.place (a ∷ []) (record { who = b; to = a.place } ∷ []) rules may
      (record {
        apart = ((λ e. n (sym e), tt), (tt, tt));
        within = (inside N ks t rules a.place sa.low, (inside N ks t rules b.place sb.low, tt));
        fit = (olds_fit N ks t rules a.place a b sa sb n can, (alone_fits N b.place c may.ends, tt));
        took = λ w. rw (sa.there, sb.there) (omega arith);
        gave = λ w. omega (arith, together_weighs w a.circuit b.circuit);
        stayed = ((has N ks t rules a sa, inl (refl, left a.circuit b.circuit)), tt);
        went = ((has N ks t rules b sb, inl (refl, right a.circuit b.circuit), λ e. n (sym e)), tt);
      }) (sa.low, (sb.low, tt)) (inr (inl (refl, one c))) (omega arith)

  -- step 3b with an old member and the new circuit
  pub two_moved : (x a : Standing) (k : ℕ) → Stands (limit_of ks) t x → Stands (limit_of ks) t a → x.place ≢ a.place
      → can_share N (direction_of x.place) a.circuit c ≡ true → Good N ks t c (two_moves c x a k)
  two_moved x a k sx sa n can =
      serves N ks t c (two_moves c x a k).changes x.place [] (record { who = x; to = a.place } ∷ record { who = a; to = x.place } ∷ []) rules may
      (record {
        apart = ((λ e. n (sym e), tt), (tt, tt));
        within = (inside N ks t rules x.place sx.low, (inside N ks t rules a.place sa.low, tt));
        fit = (new_fits x.place a sa can, (fits_alone N ks t rules a.place x sx, tt));
        took = λ w. rw (sx.there, sa.there) (omega arith);
        gave = λ w. omega (arith, together_weighs w a.circuit c);
        stayed = tt;
        went = (
          (has N ks t rules x sx, inr (inl (refl, one x.circuit)), n),
          ((has N ks t rules a sa, inl (refl, left a.circuit c), λ e. n (sym e)), tt),
        );
      }) (sx.low, (sa.low, tt)) (inl (refl, right a.circuit c)) (omega arith)

  -- step 3b with two old members
  pub three_moved : (x a b : Standing) (k : ℕ) → Stands (limit_of ks) t x → Stands (limit_of ks) t a → Stands (limit_of ks) t b
      → x.place ≢ a.place → x.place ≢ b.place → a.place ≢ b.place → can_share N (direction_of x.place) a.circuit b.circuit ≡ true
      → Good N ks t c (three_moves c x a b k)
  three_moved x a b k sx sa sb xa xb ab can =
      serves N ks t c (three_moves c x a b k).changes b.place []
      (record { who = x; to = a.place } ∷ record { who = a; to = x.place } ∷ record { who = b; to = x.place } ∷ []) rules may
      (record {
        apart = ((λ e. xa (sym e), (λ e. xb (sym e), tt)), ((λ e. ab (sym e), tt), (tt, tt)));
        within = (
          inside N ks t rules x.place sx.low,
          (inside N ks t rules a.place sa.low, (inside N ks t rules b.place sb.low, tt)),
        );
        fit = (
          olds_fit N ks t rules x.place a b sa sb ab can,
          (fits_alone N ks t rules a.place x sx, (alone_fits N b.place c may.ends, tt)),
        );
        took = λ w. rw (sx.there, sa.there, sb.there) (omega arith);
        gave = λ w. omega (arith, together_weighs w a.circuit b.circuit);
        stayed = tt;
        went = (
          (has N ks t rules x sx, inr (inl (refl, one x.circuit)), xa),
          (
            (has N ks t rules a sa, inl (refl, left a.circuit b.circuit), λ e. xa (sym e)),
            ((has N ks t rules b sb, inl (refl, right a.circuit b.circuit), λ e. xb (sym e)), tt),
          ),
        );
      }) (sx.low, (sa.low, (sb.low, tt))) (inr (inr (inl (refl, one c)))) (omega arith)
