-- Forms read by the tests of an earlier time: where each test goes as it went, or failed with a number by which the form was not refused, the
-- form has the answer and the table that it had. What the laws of forms saved before go by. Assumes nothing.
use Prim.Native.Nat.{ℕ, zero, suc}
use mathlib.Core.Path.{◌≡◌, refl, ap}
use mathlib.Core.Logic.{◌⊎◌, inl, inr, ◌≢◌}
use mathlib.Core.Bool.{Bool, true, false}
use mathlib.Core.List.{List}
use native.Mathlib.Omega.{arith}
use lib.ListN.{length}
use Rattle.limits.specs.Limits.{place_count}
use Rattle.refusals.specs.declared.Refusal.{Refusal}
use Rattle.refusals.specs.declared.Refusal.TheVariants.{BadField as no_31, BrokenForm as no_33}
use Rattle.ring.specs.Table.{fresh_table, with_channels}
use Rattle.ring.specs.declared.RingTable.{RingTable}
use Rattle.form.specs.Form.{map_width}
use Rattle.form.specs.Reader.{Field, got, fault, Reader, and_then, ◌unless◌, byte, bytes, end}
use Rattle.form.specs.Reading.{read_ports, map_bit, read_map_by, read_record_by, read_place_by, read_records_by, checked_by, Tests, read_by, answered_by}
use Rattle.refusals.specs.Refusal.{Verdict}
use Rattle.std.specs.Prelude.{Ok, Err}

-- what was granted was not refused
pub not_refused : (v : Verdict) (n : Refusal) → v ≡ Ok tt → v ≢ Err n
not_refused v n e r = let z : ◌≡◌ {A = ℕ} 0 1 = cc in absurd (omega arith)

-- a test goes as it went, or it failed and that is excepted
abbrev Judges : Type 0 → Bool → Bool → Type 0
Judges Excepted old now = (now ≡ old) ⊎ ((old ≡ false) × Excepted)

-- so does one that the old one implies
pub implied : {Excepted : Type 0} (old now : Bool) → Excepted → (old ≡ true → now ≡ true) → Judges Excepted old now
implied true now e h = inl (h refl)
implied false now e h = inr (refl, e)

module _ (except : Refusal → Type 0) where
  -- each test of a form does, where the number by which it refuses may be excepted
  pub record Agreeing (old now : Tests) : Type 0 where
    pub map : (ks : List ℕ) (lit : ℕ → Bool) → Judges (except no_31) (old.map ks lit) (now.map ks lit)
    pub fields : (m : ℕ) → Judges (except no_31) (old.fields m) (now.fields m)
    pub table : (t : RingTable) → Judges (except no_33) (old.table t) (now.table t)

  -- a reading goes as it went, or it was refused by an excepted number
  abbrev Agrees : {A : Type 0} → Field A → Field A → Type 0
  Agrees old now = (now ≡ old) ⊎ ((r : Refusal) × ((old ≡ fault r) × except r))

  -- it does where it is a test, and where its first field does and the readings after that
  agrees_test : (r : Refusal) (old now : Bool) (s : List ℕ) → Judges (except r) old now → Agrees ((r unless old) s) ((r unless now) s)
  agrees_test r old now s (inl e) = inl (rw e)
  agrees_test r old now s (inr e) = inr (r, (rw e.0, e.1))

  agrees_then : {A B : Type 0} (old now : Field A) (f g : A → Reader B) → Agrees old now → ((x : A) (s : List ℕ) → Agrees (f x s) (g x s))
      → Agrees (and_then old f) (and_then now g)
  agrees_then (got x s) now f g (inl e) h = rw e (h x s)
  agrees_then (fault n) now f g (inl e) h = inl (rw e)
  agrees_then old now f g (inr e) h = inr (e.0, (rw e.1.0, e.1.1))

  -- so do the map, a place, all places and the whole form
  module _ (old now : Tests) (a : Agreeing old now) where
    agrees_map : (ks s : List ℕ) → Agrees (read_map_by (old.map ks) s) (read_map_by (now.map ks) s)
    unfolding read_map_by
    agrees_map ks s =
        agrees_then (bytes map_width s) _ _ _ (inl refl) λ m s.
        agrees_then _ _ _ _ (agrees_test no_31 _ _ s (a.map ks (map_bit m))) λ u s. inl refl

    agrees_place : (l : Bool) (s : List ℕ) → Agrees (read_place_by (read_record_by old.fields) l s) (read_place_by (read_record_by now.fields) l s)
    unfolding read_place_by read_record_by
    agrees_place false s = inl refl
    agrees_place true s =
        agrees_then (byte s) _ _ _ (inl refl) λ m s.
        agrees_then _ _ _ _ (agrees_test no_31 _ _ s (a.fields m)) λ u s. inl refl

    agrees_places : (lit : ℕ → Bool) (k p : ℕ) (s : List ℕ)
        → Agrees (read_records_by (read_record_by old.fields) lit k p s) (read_records_by (read_record_by now.fields) lit k p s)
    unfolding read_records_by
    agrees_places lit zero p s = inl refl
    agrees_places lit (suc k) p s =
        agrees_then _ _ _ _ (agrees_place (lit p) s) λ slot s.
        agrees_then _ _ _ _ (agrees_places lit k (suc p) s) λ chs s. inl refl

    agrees_form : (s : List ℕ) → Agrees (read_by old s) (read_by now s)
    unfolding checked_by
    agrees_form s =
        agrees_then (read_ports s) _ _ _ (inl refl) λ ks s.
        agrees_then _ _ _ _ (agrees_map ks s) λ m s.
        agrees_then _ _ _ _ (agrees_places (map_bit m) place_count 0 s) λ chs s.
        agrees_then (end s) _ _ _ (inl refl) λ u s.
        agrees_then _ _ _ _ (agrees_test no_33 _ _ s (a.table (with_channels (fresh_table (length ks) ks) chs))) λ u s. inl refl

-- Law: tests that agree but for numbers by which a form was not refused give it the answer and the table that it had
pub agrees_answer : (old now : Tests) (s : List ℕ) → Agreeing (λ r. (answered_by (read_by old s)).verdict ≢ Err r) old now
    → answered_by (read_by now s) ≡ answered_by (read_by old s)
agrees_answer old now s a = go (agrees_form _ old now a s)
  where
    go : Agrees (λ r. (answered_by (read_by old s)).verdict ≢ Err r) (read_by old s) (read_by now s) → answered_by (read_by now s) ≡ answered_by (read_by old s)
    go (inl e) = ap answered_by e
    go (inr e) = absurd (e.1.1 (ap (λ f. (answered_by f).verdict) e.1.0))
