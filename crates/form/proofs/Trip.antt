-- What is written is read back: a circuit, a record, the records. Assumes nothing.
use Prim.Native.Nat.{ℕ, suc, ◌+◌, ◌<◌}
use mathlib.Core.Path.{◌≡◌, refl, sym, ap, ◌∙◌}
use mathlib.Core.Bool.{Bool, true, false, not}
use mathlib.Core.List.{List, [], ◌∷◌, ◌++◌, append_assoc}
use native.Mathlib.Nat.{add-zero, add-suc, suc-add}
use native.Mathlib.Omega.{arith}
use lib.Dec.{eqb}
use lib.ListN.{length, length-append}
use lib.Seq.{take_at, drop_at}
use borrow.Author.Tests.{le-leb, eqb-true}
use Rattle.basis.specs.Count.{All}
use Rattle.lightpath.specs.declared.Circuit.{Circuit}
use Rattle.slots.specs.declared.Slot.{Slot}
use Rattle.slots.specs.declared.Slot.TheVariants.{Unlit as unlit, Alone as alone, Shared as shared}
use Rattle.slots.specs.Slot.{is_lit}
use Rattle.lit_words.specs.Lit.{bit_of, word}
use Rattle.channels.specs.Channels.{Channels, lit_at}
use Rattle.form.specs.Bytes.{high_first}
use Rattle.form.specs.Form.{present, optional_bytes, number_width, remark_width, account_width, circuit_bytes, field_bits, field_map, record_bytes, records_bytes}
use Rattle.form.specs.Reader.{got, bytes}
use Rattle.form.specs.Reading.{read_optional, read_circuit, map_holds, read_second, read_record_by, read_place_by, read_records_by}
use Rattle.form.proofs.Numbers.{high_long, high_number}
use Rattle.form.proofs.FieldMap.{map_bit_lem, field_map_holds}

-- a field of n bytes is read back
pub bytes_back : (v s : List ℕ) (n : ℕ) → length v ≡ n → bytes n (v ++ s) ≡ got v s
bytes_back v s n e = rw (le-leb n (length (v ++ s)) (omega (arith, length-append v s)), take_at v s n e, drop_at v s n e)

-- an optional field is, where it is not 0
optional_read : (k v : ℕ) (s : List ℕ) (none : Bool) → eqb v 0 ≡ none → read_optional (suc k) (not none) (optional_bytes (suc k) v ++ s) ≡ got v s
unfolding read_optional optional_bytes
optional_read k v s true e = rw e (ap (λ (n : ℕ). got n s) (sym (eqb-true v 0 e)))
optional_read k v s false e = rw (e, bytes_back (high_first (suc k) v) s (suc k) (high_long (suc k) v), high_number k v, e)

optional_back : (k v : ℕ) (s : List ℕ) → read_optional (suc k) (present v) (optional_bytes (suc k) v ++ s) ≡ got v s
optional_back k v s = optional_read k v s (eqb v 0) refl

-- the bytes of a circuit and those after it: number, source, destination, remark, account
pub in_order_lem : (c : Circuit) (s : List ℕ)
    → circuit_bytes c ++ s
    ≡ high_first number_width c.number ++ (c.source ∷ c.destination ∷ (optional_bytes remark_width c.remark ++ (optional_bytes account_width c.account ++ s)))
unfolding circuit_bytes
in_order_lem c s =
    let number : List ℕ = high_first number_width c.number in
    let remark : List ℕ = optional_bytes remark_width c.remark in
    let account : List ℕ = optional_bytes account_width c.account in
    append_assoc number (c.source ∷ c.destination ∷ (remark ++ account)) s
    ∙ ap (λ (r : List ℕ). number ++ (c.source ∷ c.destination ∷ r)) (append_assoc remark account s)

-- a circuit is read back
circuit_back : (c : Circuit) (s : List ℕ) → read_circuit (present c.remark) (present c.account) (circuit_bytes c ++ s) ≡ got c s
unfolding read_circuit
circuit_back c s =
    let account : List ℕ = optional_bytes account_width c.account in
    let fields : List ℕ = optional_bytes remark_width c.remark ++ (account ++ s) in
    rw (
      in_order_lem c s,
      bytes_back (high_first number_width c.number) (c.source ∷ c.destination ∷ fields) number_width (high_long number_width c.number),
      optional_back 1 c.remark (account ++ s),
      optional_back 3 c.account s,
      high_number 3 c.number,
    )

-- every field map that is written holds
written_holds : (x : Slot) → map_holds (field_map (field_bits x)) ≡ true
unfolding field_map word
written_holds unlit = field_map_holds false false false false false refl
written_holds (alone a) = field_map_holds (present a.remark) false false (present a.account) false refl
written_holds (shared a b) = field_map_holds (present a.remark) true (present b.remark) (present a.account) (present b.account) refl

pub all_hold : (chs : Channels) → All (λ ch. map_holds (field_map (field_bits ch.slot)) ≡ true) chs
all_hold [] = tt
all_hold (ch ∷ chs) = (written_holds ch.slot, all_hold chs)

-- a record is read back where its field map passes the test `holds`, of one circuit and of two
alone_back : (holds : ℕ → Bool) (a : Circuit) (s : List ℕ) → holds (field_map (field_bits (alone a))) ≡ true
    → read_record_by holds (field_map (field_bits (alone a)) ∷ circuit_bytes a ++ s) ≡ got (alone a) s
unfolding read_record_by read_second
alone_back holds a s h =
    let bits : List Bool = field_bits (alone a) in
    let remark : bit_of (field_map bits) 0 ≡ present a.remark = map_bit_lem bits 0 (omega arith) in
    let second : bit_of (field_map bits) 1 ≡ false = map_bit_lem bits 1 (omega arith) in
    let account : bit_of (field_map bits) 3 ≡ present a.account = map_bit_lem bits 3 (omega arith) in
    rw (h, remark, second, account, circuit_back a s)

shared_back : (holds : ℕ → Bool) (a b : Circuit) (s : List ℕ) → holds (field_map (field_bits (shared a b))) ≡ true
    → read_record_by holds (field_map (field_bits (shared a b)) ∷ circuit_bytes a ++ (circuit_bytes b ++ s)) ≡ got (shared a b) s
unfolding read_record_by read_second
shared_back holds a b s h =
    let bits : List Bool = field_bits (shared a b) in
    let first-remark : bit_of (field_map bits) 0 ≡ present a.remark = map_bit_lem bits 0 (omega arith) in
    let second : bit_of (field_map bits) 1 ≡ true = map_bit_lem bits 1 (omega arith) in
    let second-remark : bit_of (field_map bits) 2 ≡ present b.remark = map_bit_lem bits 2 (omega arith) in
    let first-account : bit_of (field_map bits) 3 ≡ present a.account = map_bit_lem bits 3 (omega arith) in
    let second-account : bit_of (field_map bits) 4 ≡ present b.account = map_bit_lem bits 4 (omega arith) in
    rw (h, first-remark, second, second-remark, first-account, second-account, circuit_back a (circuit_bytes b ++ s), circuit_back b s)

-- so is what a place holds
place_back : (holds : ℕ → Bool) (x : Slot) (s : List ℕ) → holds (field_map (field_bits x)) ≡ true
    → read_place_by (read_record_by holds) (is_lit x) (record_bytes x ++ s) ≡ got x s
unfolding read_place_by record_bytes
place_back holds unlit s h = refl
place_back holds (alone a) s h = alone_back holds a s h
place_back holds (shared a b) s h = rw append_assoc (shared_back holds a b s h)

-- and what all of them hold, where lit says which of them are lit
pub records_back : (holds : ℕ → Bool) (lit : ℕ → Bool) (chs : Channels) (p : ℕ) (s : List ℕ) → All (λ ch. holds (field_map (field_bits ch.slot)) ≡ true) chs
    → ((j : ℕ) → j < length chs → lit (p + j) ≡ lit_at chs j) → read_records_by (read_record_by holds) lit (length chs) p (records_bytes chs ++ s) ≡ got chs s
unfolding read_records_by records_bytes
records_back holds lit [] p s k h = refl
records_back holds lit (ch ∷ chs) p s k h =
    let e : lit p ≡ is_lit ch.slot = rw add-zero at (h 0 (omega arith)) in
    let t = records_back holds lit chs (suc p) s k.1 (λ j l. rw (suc-add, ← add-suc) (h (suc j) (omega arith))) in
    rw (append_assoc, e, place_back holds ch.slot (records_bytes chs ++ s) k.0, t)
