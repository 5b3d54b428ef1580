-- 02, E2: "Forms without the bits read as account 0." Every form that was read before is read now, to the same circuits with account 0, and
-- writes back to the very same bytes; and those are the forms of the tables without accounts. Assumes nothing.
use Prim.Native.Nat.{ℕ, zero, suc, ◌+◌, ◌*◌, ◌<◌}
use mathlib.Core.Path.{◌≡◌, refl}
use mathlib.Core.Logic.{inl, ◌≢◌}
use mathlib.Core.Bool.{Bool, true, false, ◌||◌, not}
use mathlib.Core.List.{List, [], ◌∷◌}
use native.Mathlib.Omega.{arith}
use lib.Dec.{ltb}
use lib.ListN.{length}
use borrow.Author.Tests.{ltb-true, lt-ltb, eq-eqb}
use Rattle.basis.specs.Choice.{bit}
use Rattle.basis.specs.Count.{All}
use Rattle.basis.proofs.Bools.{and_left, and_right, and_both, all_left, all_right, all_join}
use Rattle.basis.proofs.Weigh.{bit_most}
use Rattle.limits.specs.Limits.{place_count}
use Rattle.lightpath.specs.declared.Circuit.{Circuit}
use Rattle.slots.specs.declared.Slot.{Slot}
use Rattle.slots.specs.declared.Slot.TheVariants.{Unlit as unlit, Alone as alone, Shared as shared}
use Rattle.slots.specs.Slot.{held}
use Rattle.lit_words.specs.Lit.{bit_of, word}
use Rattle.lit_words.proofs.Bits.{bit_above}
use Rattle.channels.specs.Channels.{Channels, circuits}
use Rattle.refusals.specs.declared.Refusal.TheVariants.{BadField as no_31, BrokenForm as no_33}
use Rattle.ring.specs.Table.{meets_rules, fresh_table, with_channels}
use Rattle.ring.specs.declared.RingTable.{RingTable}
use Rattle.form.specs.Form.{present, field_bits, field_map, form_of, number_width, remark_width}
use Rattle.form.specs.Reader.{byte, bytes, end}
use Rattle.form.specs.Reading.{read_ports, map_bit, read_map_by, read_optional, read_circuit, map_holds, read_second, read_record_by, read_place_by, read_records_by, checked_by, read_by, unlit_above, tests_now, read_table, read_of}
use Rattle.form.specs.BeforeE2.{map_held_before_e2, tests_before_e2, read_before_e2, NoAccounts, RemainsGood}
use Rattle.form.proofs.FieldMap.{map_bit_lem}
use Rattle.form.proofs.Fields.{Holds, then_holds, then_any, unless_holds, AreBytes}
use Rattle.form.proofs.Tables.{unlit_written, table_back_by}
use Rattle.form.proofs.Laws.{granted_holds, write_back}
use Rattle.form.proofs.Agreeing.{not_refused, implied, agrees_answer}
use Rattle.std.specs.Prelude.{Ok, Err}

-- 02, E2: the lowest field maps that have an account and hold did not hold before E2
pub no_bits : (map_held_before_e2 8 ≡ false) × (map_held_before_e2 18 ≡ false)
unfolding bit_of
no_bits = (refl, refl)

-- the field map of circuits without accounts held
module _ (b0 b1 b2 : Bool) where
  value : field_map (b0 ∷ b1 ∷ b2 ∷ false ∷ false ∷ []) ≡ bit b0 + 2 * bit b1 + 4 * bit b2
  unfolding field_map word
  value = omega arith

  map_held : (b1 || not b2) ≡ true → map_held_before_e2 (field_map (b0 ∷ b1 ∷ b2 ∷ false ∷ false ∷ [])) ≡ true
  map_held h =
      let bits : List Bool = b0 ∷ b1 ∷ b2 ∷ false ∷ false ∷ [] in
      and_both _ _ (lt-ltb (field_map bits) _ (omega (arith, value, bit_most b0, bit_most b1, bit_most b2))) (rw (map_bit_lem bits 1 (omega arith), map_bit_lem bits 2 (omega arith)) h)

-- so that of a place with no accounts did
written_held : (x : Slot) → All (λ c. c.account ≡ 0) (held x) → map_held_before_e2 (field_map (field_bits x)) ≡ true
unfolding field_map word
written_held unlit h = map_held false false false refl
written_held (alone a) h = rw (eq-eqb a.account 0 h.0) (map_held (present a.remark) false false refl)
written_held (shared a b) h =
    rw (eq-eqb a.account 0 h.0, eq-eqb b.account 0 h.1.0) (map_held (present a.remark) true (present b.remark) refl)

all_held_lem : (chs : Channels) → NoAccounts chs → All (λ ch. map_held_before_e2 (field_map (field_bits ch.slot)) ≡ true) chs
all_held_lem [] h = tt
all_held_lem (ch ∷ chs) h =
    (written_held ch.slot (all_left _ (held ch.slot) (circuits chs) h), all_held_lem chs (all_right _ (held ch.slot) (circuits chs) h))

-- a field map that held before has neither of the two bits
module _ (m : ℕ) (h : map_held_before_e2 m ≡ true) where
  below_8 : m < 8
  below_8 = ltb-true m 8 (and_left (ltb m 8) _ h)

  no_first : bit_of m 3 ≡ false
  no_first = bit_above m 3 below_8

  no_second : bit_of m 4 ≡ false
  no_second = bit_above m 4 (omega (arith, below_8))

  -- so it holds
  pub held_holds : map_holds m ≡ true
  unfolding map_holds
  held_holds = rw (lt-ltb m 32 (omega (arith, below_8)), no_second) (go (bit_of m 1) (bit_of m 2) (and_right (ltb m 8) _ h))
    where
      go : (x y : Bool) → (x || not y) ≡ true → (x || not (y || false)) ≡ true
      go true y k = refl
      go false true k = k
      go false false k = refl

-- 02, E2: a form that before E2 was not refused by 31 has the answer and the table that it had
pub answer_before : (s : List ℕ) → (read_before_e2 s).verdict ≢ Err no_31 → read_of s ≡ read_before_e2 s
unfolding read_of read_table
answer_before s other =
    agrees_answer tests_before_e2 tests_now s
    (record { map = λ ks lit. inl refl; fields = λ m. implied _ _ other (held_holds m); table = λ t. inl refl })

-- no circuit that was read before has an account
circuit_none : (m : Bool) (s : List ℕ) → Holds (λ c r. c.account ≡ 0) (read_circuit m false s)
unfolding read_circuit read_optional
circuit_none m s =
    then_any _ (bytes number_width s) _ λ n s1.
    then_any _ (byte s1) _ λ x s2.
    then_any _ (byte s2) _ λ y s3.
    then_any _ (read_optional remark_width m s3) _ λ z s4.
    refl

second_none : (a : Circuit) (second m : Bool) (s : List ℕ) → a.account ≡ 0 → Holds (λ x r. All (λ c. c.account ≡ 0) (held x)) (read_second a second m false s)
unfolding read_second
second_none a false m s e = (e, tt)
second_none a true m s e = then_holds _ _ (read_circuit m false s) _ (circuit_none m s) λ b r q. (e, (q, tt))

record_none : (s : List ℕ) → Holds (λ x r. All (λ c. c.account ≡ 0) (held x)) (read_record_by map_held_before_e2 s)
unfolding read_record_by
record_none s =
    then_any _ (byte s) _ λ m s1.
    unless_holds _ no_31 (map_held_before_e2 m) s1 _ λ t.
    rw (no_first m t, no_second m t)
    (then_holds _ _ (read_circuit (bit_of m 0) false s1) _ (circuit_none (bit_of m 0) s1) λ a s2 q.
    second_none a (bit_of m 1) (bit_of m 2) s2 q)

place_none : (l : Bool) (s : List ℕ) → Holds (λ x r. All (λ c. c.account ≡ 0) (held x)) (read_place_by (read_record_by map_held_before_e2) l s)
unfolding read_place_by
place_none false s = tt
place_none true s = record_none s

records_none : (lit : ℕ → Bool) (k p : ℕ) (s : List ℕ) → Holds (λ chs r. NoAccounts chs) (read_records_by (read_record_by map_held_before_e2) lit k p s)
unfolding read_records_by
records_none lit zero p s = tt
records_none lit (suc k) p s =
    then_holds _ _ (read_place_by (read_record_by map_held_before_e2) (lit p) s) _ (place_none (lit p) s) λ x s1 q.
    then_holds _ _ (read_records_by (read_record_by map_held_before_e2) lit k (suc p) s1) _ (records_none lit k (suc p) s1) λ chs s2 q2.
    all_join _ (held x) (circuits chs) q q2

table_none : (s : List ℕ) → Holds (λ t r. NoAccounts t.channels) (read_by tests_before_e2 s)
unfolding checked_by
table_none s =
    then_any _ (read_ports s) _ λ ks s1.
    then_any _ (read_map_by (unlit_above ks) s1) _ λ m s2.
    then_holds _ _ (read_records_by (read_record_by map_held_before_e2) (map_bit m) place_count 0 s2) _ (records_none (map_bit m) place_count 0 s2) λ chs s3 q.
    then_any _ (end s3) _ λ u s4.
    unless_holds _ no_33 (meets_rules (with_channels (fresh_table (length ks) ks) chs)) s4 _ λ g.
    q

-- 02, E2: a form that was read before E2 gave a table without accounts
pub no_accounts : (s : List ℕ) → (read_before_e2 s).verdict ≡ Ok tt → NoAccounts (read_before_e2 s).table.channels
no_accounts s e = (granted_holds _ (read_by tests_before_e2 s) (table_none s) e).1

-- 02, E2: "Forms without the bits read as account 0.": every form that was read before E2 is read, to the same circuits with account 0, and
-- writes back to the very same bytes
pub read_before : (s : List ℕ) → AreBytes s → (read_before_e2 s).verdict ≡ Ok tt → RemainsGood s
read_before s h e = record { same = same; none = rw same (no_accounts s e); back = write_back s h (rw same e) }
  where
    same : read_of s ≡ read_before_e2 s
    same = answer_before s (not_refused _ no_31 e)

-- 02, E2: the form of every table without accounts was read before E2
pub back_before : (t : RingTable) → meets_rules t ≡ true → NoAccounts t.channels → read_before_e2 (form_of t) ≡ record { table = t; verdict = Ok tt }
back_before t m h = rw (table_back_by tests_before_e2 t m (unlit_written t m) (all_held_lem t.channels h) m)
