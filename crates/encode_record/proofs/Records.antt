-- The record of a place, part by part. Assumes nothing.
use Prim.Native.Nat.{ℕ, ◌+◌, ◌*◌}
use mathlib.Core.Path.{◌≡◌, refl}
use mathlib.Core.List.{List, [], ◌∷◌}
use native.Mathlib.Nat.{add-zero}
use native.Mathlib.Omega.{arith}
use Rattle.basis.specs.Choice.{bit}
use Rattle.lightpath.specs.declared.Circuit.{Circuit}
use Rattle.slots.specs.declared.Slot.{Slot}
use Rattle.slots.specs.declared.Slot.TheVariants.{Unlit as unlit, Alone as alone, Shared as shared}
use Rattle.lit_words.specs.Lit.{word}
use Rattle.buffer.specs.Put.{Room, Put}
use Rattle.buffer.proofs.Chain.{Putting, start, first, then, done}
use Rattle.form.specs.Form.{present, field_bits, field_map, circuit_bytes, record_bytes}

-- the field map, from the bits of its fields
pub alone_map : (a : Circuit) (n x : ℕ) → n ≡ bit (present a.remark) → x ≡ bit (present a.account) → n + 8 * x ≡ field_map (field_bits (alone a))
unfolding field_map word
alone_map a n x e f = omega (arith, e, f)

pub shared_map : (a b : Circuit) (n m x y : ℕ) → n ≡ bit (present a.remark) → m ≡ bit (present b.remark) → x ≡ bit (present a.account) → y ≡ bit (present b.account)
    → n + 4 * m + 2 + 8 * (x + 2 * y) ≡ field_map (field_bits (shared a b))
unfolding field_map word
shared_map a b n m x y e g f h = omega (arith, e, g, f, h)

-- a record of one circuit
module _ (a : Circuit) (m : ℕ) (g : m ≡ field_map (field_bits (alone a))) (l : List ℕ) (i : ℕ) (h : Room l i (record_bytes (alone a))) where
  alone_begun : Putting l i (record_bytes (alone a)) l i (m ∷ []) (circuit_bytes a ∷ [])
  unfolding record_bytes
  alone_begun = start _ _ (rw g) h

  pub alone_map_room : Room l i (m ∷ [])
  alone_map_room = first alone_begun

  module _ (l1 : List ℕ) (n1 : ℕ) (q1 : Put l i (m ∷ []) l1 n1) where
    pub alone_room : Room l1 n1 (circuit_bytes a)
    alone_room = first (then q1 alone_begun)

    pub alone_put : (l2 : List ℕ) (n2 : ℕ) → Put l1 n1 (circuit_bytes a) l2 n2 → Put l i (record_bytes (alone a)) l2 n2
    alone_put l2 n2 q2 = done q2 (then q1 alone_begun)

pub ruleset alone_rules = (alone_map_room, alone_room, alone_put)

-- and of two
module _ (a b : Circuit) (m : ℕ) (g : m ≡ field_map (field_bits (shared a b))) (l : List ℕ) (i : ℕ) (h : Room l i (record_bytes (shared a b))) where
  shared_begun : Putting l i (record_bytes (shared a b)) l i (m ∷ []) (circuit_bytes a ∷ circuit_bytes b ∷ [])
  unfolding record_bytes
  shared_begun = start _ _ (rw g) h

  pub map_room : Room l i (m ∷ [])
  map_room = first shared_begun

  module _ (l1 : List ℕ) (n1 : ℕ) (q1 : Put l i (m ∷ []) l1 n1) where
    pub first_room_lem : Room l1 n1 (circuit_bytes a)
    first_room_lem = first (then q1 shared_begun)

    module _ (l2 : List ℕ) (n2 : ℕ) (q2 : Put l1 n1 (circuit_bytes a) l2 n2) where
      pub second_room : Room l2 n2 (circuit_bytes b)
      second_room = first (then q2 (then q1 shared_begun))

      pub shared_put : (l3 : List ℕ) (n3 : ℕ) → Put l2 n2 (circuit_bytes b) l3 n3 → Put l i (record_bytes (shared a b)) l3 n3
      shared_put l3 n3 q3 = done q3 (then q2 (then q1 shared_begun))

pub ruleset shared_rules = (map_room, first_room_lem, second_room, shared_put)

-- an unlit place has none
pub unlit_put : (s : Slot) (l : List ℕ) (i : ℕ) → s ≡ unlit → Put l i (record_bytes s) l i
unfolding record_bytes
unlit_put s l i e = rw e (record { is = refl; end = rw add-zero })

pub record_room : (s x : Slot) (l : List ℕ) (i : ℕ) → s ≡ x → Room l i (record_bytes s) → Room l i (record_bytes x)
record_room s x l i e h = rw (← e) h

pub record_put : (s x : Slot) (l : List ℕ) (i : ℕ) (l1 : List ℕ) (n : ℕ) → s ≡ x → Put l i (record_bytes x) l1 n → Put l i (record_bytes s) l1 n
record_put s x l i l1 n e h = rw e h

pub ruleset record_rules = (unlit_put, record_room, record_put)
