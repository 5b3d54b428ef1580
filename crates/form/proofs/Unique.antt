-- Whatever is read is what is written of it: a circuit, a record, the records. Assumes nothing.
use Prim.Native.Nat.{ℕ, zero, suc, ◌+◌, ◌<◌}
use mathlib.Core.Path.{◌≡◌, refl, ap}
use mathlib.Core.Bool.{Bool, true, false}
use mathlib.Core.List.{List, [], ◌∷◌, ◌++◌, append_assoc}
use native.Mathlib.Nat.{add-zero, add-suc, suc-add}
use native.Mathlib.Omega.{arith}
use lib.ListN.{length}
use Rattle.lightpath.specs.declared.Circuit.{Circuit}
use Rattle.slots.specs.declared.Slot.{Slot}
use Rattle.slots.specs.declared.Slot.TheVariants.{Unlit as unlit, Alone as alone, Shared as shared}
use Rattle.slots.specs.Slot.{is_lit}
use Rattle.lit_words.specs.Lit.{bit_of}
use Rattle.channels.specs.Channels.{Channels, lit_at}
use Rattle.refusals.specs.declared.Refusal.TheVariants.{BadField}
use Rattle.form.specs.Bytes.{number_in}
use Rattle.form.specs.Form.{present, optional_bytes, number_width, remark_width, account_width, circuit_bytes, field_bits, field_map, record_bytes, records_bytes}
use Rattle.form.specs.Reader.{byte, bytes}
use Rattle.form.specs.Reading.{read_optional, read_circuit, map_holds, read_second, read_record_by, read_record, read_place_by, read_place, read_records_by, read_records}
use Rattle.form.proofs.Numbers.{high_is}
use Rattle.form.proofs.FieldMap.{field_map_is, second_absent}
use Rattle.form.proofs.Trip.{in_order_lem}
use Rattle.form.proofs.Fields.{Holds, then_holds, unless_holds, AreBytes, Wrote, wrote, byte_wrote, bytes_wrote}

-- an optional field that is read is the one written, and its bit says whether there is one
optional_wrote : (k : ℕ) (m : Bool) (s : List ℕ) → AreBytes s → Holds (λ v r. Wrote (optional_bytes (suc k)) s v r × (present v ≡ m)) (read_optional (suc k) m s)
unfolding read_optional optional_bytes
optional_wrote k false s h = (wrote (optional_bytes (suc k)) s 0 s h refl, refl)
optional_wrote k true s h =
    then_holds _ _ (bytes (suc k) s) _ (bytes_wrote (suc k) s h) λ v r q.
    unless_holds _ BadField (present (number_in v)) r _ λ t.
    -- its type is written out, so that another test is refused by what it says
    let good : Wrote (optional_bytes (suc k)) s (number_in v) r × (present (number_in v) ≡ true) =
    (wrote (optional_bytes (suc k)) s (number_in v) r h (rw (t, high_is k v q.0.front q.1) q.0.is), t) in
    good

-- so is a circuit
circuit_wrote : (m k : Bool) (s : List ℕ) → AreBytes s
    → Holds (λ c r. Wrote circuit_bytes s c r × ((present c.remark ≡ m) × (present c.account ≡ k))) (read_circuit m k s)
unfolding read_circuit
circuit_wrote m k s h =
    then_holds _ _ (bytes number_width s) _ (bytes_wrote number_width s h) λ n s1 q.
    then_holds _ _ (byte s1) _ (byte_wrote s1 q.0.rest) λ x s2 q2.
    then_holds _ _ (byte s2) _ (byte_wrote s2 q2.rest) λ y s3 q3.
    then_holds _ _ (read_optional remark_width m s3) _ (optional_wrote 1 m s3 q3.rest) λ z s4 q4.
    then_holds _ _ (read_optional account_width k s4) _ (optional_wrote 3 k s4 q4.0.rest) λ w s5 q5.
    let c : Circuit = record { number = number_in n; source = x; destination = y; remark = z; account = w } in (
      wrote circuit_bytes s c s5 h
          (rw (
            in_order_lem c s5,
            high_is 3 n q.0.front q.1,
            ← q5.0.is,
            ← q4.0.is,
            ← q3.is,
            ← q2.is,
          ) q.0.is),
      (q4.1, q5.1),
    )

-- a record that is read is the one written of its circuits
second_wrote : (m : ℕ) (s : List ℕ) (a : Circuit) (s2 : List ℕ) → AreBytes s → AreBytes s2 → s ≡ m ∷ (circuit_bytes a ++ s2) → map_holds m ≡ true
    → (present a.remark ≡ bit_of m 0) × (present a.account ≡ bit_of m 3) → (second : Bool) → bit_of m 1 ≡ second
    → Holds (λ x r. Wrote record_bytes s x r × (is_lit x ≡ true)) (read_second a second (bit_of m 2) (bit_of m 4) s2)
unfolding read_second record_bytes
second_wrote m s a s2 h k e t e0 false e1 =
    let none = second_absent m t e1 in
    let f : field_map (field_bits (alone a)) ≡ m = rw (e1, none.0, none.1, ← e0.0, ← e0.1) at (field_map_is m t) in
    (wrote record_bytes s (alone a) s2 h (rw f e), refl)
second_wrote m s a s2 h k e t e0 true e1 =
    then_holds _ _ (read_circuit (bit_of m 2) (bit_of m 4) s2) _ (circuit_wrote (bit_of m 2) (bit_of m 4) s2 k) λ b s3 q.
    let f : field_map (field_bits (shared a b)) ≡ m = rw (e1, ← e0.0, ← e0.1, ← q.1.0, ← q.1.1) at (field_map_is m t) in
    (wrote record_bytes s (shared a b) s3 h (rw (f, append_assoc, ← q.0.is) e), refl)

record_wrote : (s : List ℕ) → AreBytes s → Holds (λ x r. Wrote record_bytes s x r × (is_lit x ≡ true)) (read_record s)
unfolding read_record_by
record_wrote s h =
    then_holds _ _ (byte s) _ (byte_wrote s h) λ m s1 q.
    unless_holds _ BadField (map_holds m) s1 _ λ t.
    then_holds _ _ (read_circuit (bit_of m 0) (bit_of m 3) s1) _ (circuit_wrote (bit_of m 0) (bit_of m 3) s1 q.rest) λ a s2 q2.
    second_wrote m s a s2 h q2.0.rest (rw (← q2.0.is) q.is) t q2.1 (bit_of m 1) refl

-- so is a place, lit or not
place_wrote : (l : Bool) (s : List ℕ) → AreBytes s → Holds (λ x r. Wrote record_bytes s x r × (is_lit x ≡ l)) (read_place l s)
unfolding read_place_by record_bytes
place_wrote false s h = (wrote record_bytes s unlit s h refl, refl)
place_wrote true s h = record_wrote s h

-- k channels, whose lit ones are as lit says from p on, are those that the bytes s give before r
pub record RecordsWrote (lit : ℕ → Bool) (k p : ℕ) (s : List ℕ) (chs : Channels) (r : List ℕ) : Type 0 where
  pub wrote : Wrote records_bytes s chs r
  pub long : length chs ≡ k
  pub says : (j : ℕ) → j < k → lit_at chs j ≡ lit (p + j)

-- one place more
says_more : (lit : ℕ → Bool) (k p : ℕ) (x : Slot) (chs : Channels) → is_lit x ≡ lit p → ((j : ℕ) → j < k → lit_at chs j ≡ lit (suc p + j))
    → (j : ℕ) → j < suc k → lit_at (record { slot = x } ∷ chs) j ≡ lit (p + j)
says_more lit k p x chs e h zero l = rw add-zero e
says_more lit k p x chs e h (suc j) l = rw (add-suc, ← suc-add) (h j (omega arith))

-- the records that are read are those written
pub records_wrote : (lit : ℕ → Bool) (k p : ℕ) (s : List ℕ) → AreBytes s → Holds (RecordsWrote lit k p s) (read_records lit k p s)
unfolding read_records_by records_bytes
records_wrote lit zero p s h = record { wrote = wrote records_bytes s [] s h refl; long = refl; says = λ j l. absurd (omega arith) }
records_wrote lit (suc k) p s h =
    then_holds _ _ (read_place (lit p) s) _ (place_wrote (lit p) s h) λ x s1 q.
    then_holds _ _ (read_records lit k (suc p) s1) _ (records_wrote lit k (suc p) s1 q.0.rest) λ chs s2 q2.
    record {
      wrote = wrote records_bytes s (record { slot = x } ∷ chs) s2 h (rw (append_assoc, ← q2.wrote.is) q.0.is);
      long = ap suc q2.long;
      says = says_more lit k p x chs q.1 q2.says;
    }
