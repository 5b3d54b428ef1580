-- The bytes of a circuit, part by part. Each law takes what the calls ensured as it stands in the record of a need, so that `search`
-- finds it. Assumes nothing.
use Prim.Native.Nat.{ℕ, ◌<◌}
use mathlib.Core.Path.{◌≡◌, refl, sym}
use mathlib.Core.List.{List, [], ◌∷◌, append_assoc}
use native.Mathlib.Nat.{add-zero}
use native.Mathlib.Omega.{arith}
use borrow.Author.Tests.{eq-eqb, ne_eqb}
use Rattle.lightpath.specs.declared.Circuit.{Circuit}
use Rattle.buffer.specs.Put.{Room, Put}
use Rattle.buffer.proofs.Chain.{Putting, start, first, then, done}
use Rattle.form.specs.Bytes.{high_first}
use Rattle.form.specs.Form.{optional_bytes, number_width, remark_width, account_width, circuit_bytes}
use Rattle.byte_numbers.specs.Widths.{Wide}
use Rattle.encode_record.specs.Fields.{plain_fields, optional_fields}

-- an optional field only where it is there
module _ (width v : ℕ) (l : List ℕ) (i : ℕ) where
  pub none_put : v ≡ 0 → Put l i (optional_bytes width v) l i
  unfolding optional_bytes
  none_put e = rw (eq-eqb v 0 e) (record { is = refl; end = rw add-zero })

  module _ (h : v ≡ 0 → ⊥) where
    optional_is : optional_bytes width v ≡ high_first width v
    unfolding optional_bytes
    optional_is = rw (ne_eqb v 0 h)

    pub optional_room : Room l i (optional_bytes width v) → Room l i (high_first width v)
    optional_room q = rw optional_is at q

    pub optional_put : (l1 : List ℕ) (n : ℕ) → Put l i (high_first width v) l1 n → Put l i (optional_bytes width v) l1 n
    optional_put l1 n q = rw optional_is q

pub ruleset optional_rules = (none_put, optional_room, optional_put)

-- a number of 32 bits fits in four bytes, and one of 16 in two
pub wide_four : (n : ℕ) → n < 4294967296 → Wide number_width n
wide_four n h = record { some = omega arith; most = omega arith; fits = h }

pub wide_two : (n m : ℕ) → n ≡ m → m < 65536 → Wide remark_width n
wide_two n m e h = record { some = omega arith; most = omega arith; fits = omega arith }

-- the fields that every circuit has: number, source, destination
module _ (c : Circuit) (l : List ℕ) (i : ℕ) (h : Room l i (plain_fields c)) where
  plain_begun : Putting l i (plain_fields c) l i (high_first number_width c.number) ((c.source ∷ []) ∷ (c.destination ∷ []) ∷ [])
  unfolding plain_fields
  plain_begun = start _ _ refl h

  pub number_room_lem : Room l i (high_first number_width c.number)
  number_room_lem = first plain_begun

  module _ (l1 : List ℕ) (n1 : ℕ) (q1 : Put l i (high_first number_width c.number) l1 n1) where
    pub source_room : Room l1 n1 (c.source ∷ [])
    source_room = first (then q1 plain_begun)

    module _ (l2 : List ℕ) (n2 : ℕ) (q2 : Put l1 n1 (c.source ∷ []) l2 n2) where
      pub destination_room : Room l2 n2 (c.destination ∷ [])
      destination_room = first (then q2 (then q1 plain_begun))

      pub plain_put : (l3 : List ℕ) (n3 : ℕ) → Put l2 n2 (c.destination ∷ []) l3 n3 → Put l i (plain_fields c) l3 n3
      plain_put l3 n3 q3 = done q3 (then q2 (then q1 plain_begun))

pub ruleset plain_rules = (wide_four, number_room_lem, source_room, destination_room, plain_put)

-- those that one may be without: remark, account
module _ (c : Circuit) (v : ℕ) (e : v ≡ c.remark) (l : List ℕ) (i : ℕ) (h : Room l i (optional_fields c)) where
  fields_begun : Putting l i (optional_fields c) l i (optional_bytes remark_width v) (optional_bytes account_width c.account ∷ [])
  unfolding optional_fields
  fields_begun = start _ _ (rw e) h

  pub remark_room : Room l i (optional_bytes remark_width v)
  remark_room = first fields_begun

  module _ (l1 : List ℕ) (n1 : ℕ) (q1 : Put l i (optional_bytes remark_width v) l1 n1) where
    pub account_room : Room l1 n1 (optional_bytes account_width c.account)
    account_room = first (then q1 fields_begun)

    pub fields_put : (l2 : List ℕ) (n2 : ℕ) → Put l1 n1 (optional_bytes account_width c.account) l2 n2 → Put l i (optional_fields c) l2 n2
    fields_put l2 n2 q2 = done q2 (then q1 fields_begun)

pub ruleset field_rules = (wide_four, wide_two, remark_room, account_room, fields_put)

-- a circuit: these, one after the other
module _ (c : Circuit) (l : List ℕ) (i : ℕ) (h : Room l i (circuit_bytes c)) where
  circuit_begun : Putting l i (circuit_bytes c) l i (plain_fields c) (optional_fields c ∷ [])
  unfolding circuit_bytes plain_fields optional_fields
  circuit_begun = start _ _ (sym (append_assoc (high_first number_width c.number) (c.source ∷ c.destination ∷ []) (optional_fields c))) h

  pub plain_room : Room l i (plain_fields c)
  plain_room = first circuit_begun

  module _ (l1 : List ℕ) (n1 : ℕ) (q1 : Put l i (plain_fields c) l1 n1) where
    pub fields_room : Room l1 n1 (optional_fields c)
    fields_room = first (then q1 circuit_begun)

    pub circuit_put : (l2 : List ℕ) (n2 : ℕ) → Put l1 n1 (optional_fields c) l2 n2 → Put l i (circuit_bytes c) l2 n2
    circuit_put l2 n2 q2 = done q2 (then q1 circuit_begun)

pub ruleset circuit_rules = (plain_room, fields_room, circuit_put)
