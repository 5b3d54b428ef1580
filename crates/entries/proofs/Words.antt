-- An entry's two numbers: there and back, and the order of keys, which is "by source node and then by number". Assumes nothing.
use Prim.Native.Nat.{ℕ, ◌/◌, ◌%◌, ◌^◌, ◌<◌}
use mathlib.Core.Path.{◌≡◌}
use mathlib.Core.Logic.{◌⊎◌, inl, inr, ◌↔◌}
use mathlib.Core.Bool.{true}
use native.Mathlib.Decide.{dec_lt}
use native.Mathlib.Omega.{arith}
use borrow.Author.Tests.{ltb-true, lt-ltb}
use Rattle.basis.proofs.Bools.{and_left, and_right, and_both}
use Rattle.lightpath.specs.declared.Circuit.{Circuit}
use Rattle.channels.specs.declared.Standing.{Standing}
use Rattle.entries.specs.Entry.{key_of, rest_of, entry_of, placed_at, in_fields}

-- a circuit is within its fields where each number is
pub in_fields_lem : (c : Circuit) → c.number < 2 ^ 32 → c.source < 2 ^ 8 → c.destination < 2 ^ 8 → c.remark < 2 ^ 16 → in_fields c ≡ true
unfolding in_fields
in_fields_lem c n s d r =
    and_both _ _
    (and_both _ _ (and_both _ _ (lt-ltb c.number (2 ^ 32) n) (lt-ltb c.source (2 ^ 8) s)) (lt-ltb c.destination (2 ^ 8) d))
    (lt-ltb c.remark (2 ^ 16) r)

-- and back
pub record Within (c : Circuit) : Type 0 where
  pub number : c.number < 2 ^ 32
  pub source : c.source < 2 ^ 8
  pub destination : c.destination < 2 ^ 8
  pub remark : c.remark < 2 ^ 16

pub fields_within : (c : Circuit) → in_fields c ≡ true → Within c
unfolding in_fields
fields_within c h = record {
  number = ltb-true c.number (2 ^ 32) (search (and_left, and_right));
  source = ltb-true c.source (2 ^ 8) (search (and_left, and_right));
  destination = ltb-true c.destination (2 ^ 8) (search (and_left, and_right));
  remark = ltb-true c.remark (2 ^ 16) (search (and_left, and_right));
}

-- a key has the number below
pub key_number : (c : Circuit) → in_fields c ≡ true → key_of c % 2 ^ 32 ≡ c.number
unfolding key_of
key_number c h = let w = fields_within c h in omega arith

-- 02, E7: "by source node and then by number": so keys rise
pub key_order : (a b : Circuit) → in_fields a ≡ true → in_fields b ≡ true
    → (key_of a < key_of b) ↔ ((a.source < b.source) ⊎ ((a.source ≡ b.source) × (a.number < b.number)))
unfolding key_of
key_order a b h k = (λ l. go l (dec_lt a.source b.source), back)
  where
    u : Within a
    u = fields_within a h

    v : Within b
    v = fields_within b k

    go : key_of a < key_of b → Dec (a.source < b.source) → (a.source < b.source) ⊎ ((a.source ≡ b.source) × (a.number < b.number))
    go l (yes s) = inl s
    go l (no s) = inr (omega (arith, u, v), omega (arith, u, v))

    back : (a.source < b.source) ⊎ ((a.source ≡ b.source) × (a.number < b.number)) → key_of a < key_of b
    back (inl s) = omega (arith, u, v)
    back (inr s) = omega arith

-- an entry is within its fields
pub entry_fields : (key rest : ℕ) → in_fields (entry_of key rest).circuit ≡ true
unfolding entry_of
entry_fields key rest = in_fields_lem (entry_of key rest).circuit (omega arith) (omega arith) (omega arith) (omega arith)

pub entry_place : (key rest : ℕ) → (entry_of key rest).place < 2 ^ 8
unfolding entry_of
entry_place key rest = omega arith

-- a rest has the place below, and above it the destination
pub rest_place : (m : Standing) → m.place < 2 ^ 8 → rest_of m % 2 ^ 8 ≡ m.place
unfolding rest_of
rest_place m h = omega arith

pub rest_destination : (m : Standing) → in_fields m.circuit ≡ true → m.place < 2 ^ 8 → rest_of m / 2 ^ 8 % 2 ^ 8 ≡ m.circuit.destination
unfolding rest_of
rest_destination m f h = let w = fields_within m.circuit f in omega arith

-- and another place is put for its own
pub placed_rest : (m : Standing) (p : ℕ) → m.place < 2 ^ 8 → placed_at (rest_of m) p ≡ rest_of (record { place = p; circuit = m.circuit })
unfolding placed_at rest_of
placed_rest m p h = omega arith

-- 02, E7: "each with its place": a circuit and its place come back from a key and a rest
pub entry_back : (m : Standing) → in_fields m.circuit ≡ true → m.place < 2 ^ 8 → entry_of (key_of m.circuit) (rest_of m) ≡ m
unfolding entry_of key_of rest_of
entry_back m f h =
    let w = fields_within m.circuit f in
    let source : key_of m.circuit / 2 ^ 32 % 2 ^ 8 ≡ m.circuit.source = omega arith in
    let remark : rest_of m / 2 ^ 16 % 2 ^ 16 ≡ m.circuit.remark = omega arith in
    let account : rest_of m / 2 ^ 32 ≡ m.circuit.account = omega arith in
    λ i. record {
      place = rest_place m h i;
      circuit = record {
        number = key_number m.circuit f i;
        source = source i;
        destination = rest_destination m f h i;
        remark = remark i;
        account = account i;
      };
    }
