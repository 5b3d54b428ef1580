-- The lines of an answer, from their words with the numbers put in. Assumes nothing.
use Prim.Native.Nat.{ℕ, ◌+◌, ◌%◌, ◌≤◌, ◌<◌}
use mathlib.Core.Path.{◌≡◌}
use mathlib.Core.List.{List, [], ◌∷◌, append_assoc, append-nil}
use native.Mathlib.Omega.{arith}
use lib.ListN.{length}
use borrow.Author.Tests.{lt-ltb, le-ltb, ne_eqb}
use Rattle.lightpath.specs.declared.Circuit.{Circuit}
use Rattle.refusals.specs.Refusal.{number_of, Verdict}
use Rattle.refusals.specs.declared.Refusal.{Refusal}
use Rattle.refusals.proofs.Bytes.{number_byte}
use Rattle.form.specs.Form.{longest_form}
use Rattle.link_question.specs.Link.{no_circuit, refusal_of}
use Rattle.buffer.specs.Put.{Put, Room, Printed}
use Rattle.buffer.proofs.Put.{put_put, put_length}
use Rattle.text.specs.Bytes.{bytes}
use Rattle.hex_text.specs.Hex.{hex_of}
use Rattle.hex_text.proofs.Writing.{hex_long}
use Rattle.print.specs.Answers.{piece, line_of}
use Rattle.print.specs.Filled.{filled, filled_room}
use Rattle.inventory.specs.Lines.{read_line, read_room, form_line, form_room, length_line, length_room, number_room, link_line, link_room, circuit_line, circuit_line_room}
use Rattle.std.specs.Prelude.{Ok, Err}

module _ (l l' : List ℕ) (at e : ℕ) where
  pub read_made : (n w : ℕ) (v : Verdict) → v ≡ Ok tt → Printed read_room l at (filled (bytes "read # wavelengths #\n") n w 0 0) l' e → Printed read_room l at (read_line n w v) l' e
  unfolding filled piece
  read_made n w v h p = rw h p

  pub read_refused : (n w : ℕ) (v : Verdict) (r : Refusal) → v ≡ Err r → Printed (filled_room (bytes "read refused #\n")) l at (filled (bytes "read refused #\n") (number_of r) 0 0 0) l' e
      → Printed read_room l at (read_line n w v) l' e
  unfolding filled piece
  read_refused n w v r h p = record { put = rw h p.put; short = omega (arith, p.short) }

  pub length_line_lem : (n : ℕ) → Printed length_room l at (filled (bytes "write #\n") n 0 0 0) l' e → Printed length_room l at (length_line n) l' e
  unfolding filled piece
  length_line_lem n p = p

  pub one_load : (n : ℕ) → Printed number_room l at (filled (bytes " #") n 0 0 0) l' e → Printed number_room l at (piece (bytes " ") n) l' e
  unfolding filled piece
  one_load n p = rw append-nil at p

  module _ (a : ℕ) where
    pub link_circuit : a < no_circuit → Printed link_room l at (filled (bytes "link circuit #\n") a 0 0 0) l' e → Printed link_room l at (link_line a) l' e
    unfolding filled piece link_line
    link_circuit h p = rw (lt-ltb a no_circuit h) p

    pub link_none : a ≡ no_circuit → Put l at (bytes "link none\n") l' e → Printed link_room l at (link_line a) l' e
    unfolding link_line
    link_none h p = record { put = rw h p; short = omega (arith, p.end) }

    pub link_refused : no_circuit ≤ a → (a ≡ no_circuit → ⊥) → Printed link_room l at (filled (bytes "link refused #\n") (a % 256) 0 0 0) l' e
        → Printed link_room l at (link_line a) l' e
    unfolding filled piece link_line
    link_refused h n p = rw (le-ltb a no_circuit h, ne_eqb a no_circuit n) p

-- the answer of a refusal is printed with its number
pub refusal_line : (r : Refusal) → link_line (refusal_of r) ≡ line_of (("link refused ", number_of r) ∷ [])
unfolding link_line
refusal_line r =
    let b = number_byte r in
    let low : (no_circuit + number_of r) % 256 ≡ number_of r = omega (arith, b.1) in
    rw (le-ltb (refusal_of r) no_circuit (omega arith), ne_eqb (refusal_of r) no_circuit (omega (arith, b.0)), low)

pub ruleset lines = (read_made, read_refused, length_line_lem, one_load, link_circuit, link_none, link_refused)

-- a circuit's line is printed in two parts
module _ (l : List ℕ) (at : ℕ) (c : Circuit) (place : ℕ) (l1 : List ℕ) (i : ℕ)
    (p : Printed (filled_room (bytes "circuit # from # to # remark #")) l at (filled (bytes "circuit # from # to # remark #") c.number c.source c.destination c.remark) l1 i) where
  pub circuit_room_lem : at + circuit_line_room ≤ length l → i + filled_room (bytes " account # place #\n") ≤ length l1
  circuit_room_lem h = omega (arith, p.short, put_length p.put)

  pub circuit_put : (l2 : List ℕ) (j : ℕ) → Printed (filled_room (bytes " account # place #\n")) l1 i (filled (bytes " account # place #\n") c.account place 0 0) l2 j → Printed circuit_line_room l at (circuit_line place c) l2 j
  unfolding filled piece circuit_line
  circuit_put l2 j q = record { put = simp (append_assoc, append-nil) at (put_put p.put q.put); short = omega (arith, p.short, q.short) }

pub ruleset circuit = (circuit_room_lem, circuit_put)

-- a form's line is printed in three parts
module _ (l : List ℕ) (at : ℕ) (form : List ℕ) (few : length form ≤ longest_form) (h : at + form_room longest_form ≤ length l) (l1 : List ℕ) (i : ℕ)
    (p : Printed (filled_room (bytes "write # ")) l at (filled (bytes "write # ") (length form) 0 0 0) l1 i) where
  pub form_room_lem : Room l1 i (hex_of form)
  form_room_lem = record { fits = omega (arith, hex_long form, p.short, put_length p.put) }

  module _ (l2 : List ℕ) (j : ℕ) (q : Put l1 i (hex_of form) l2 j) where
    pub form_end : Room l2 j (10 ∷ [])
    form_end = record { fits = omega (arith, hex_long form, p.short, put_length p.put, q.end, put_length q) }

    pub form_put : (l3 : List ℕ) (k : ℕ) → Put l2 j (10 ∷ []) l3 k → Printed (form_room longest_form) l at (form_line form) l3 k
    unfolding filled piece form_line
    form_put l3 k r =
        record {
          put = simp (append_assoc, append-nil) at (put_put (put_put p.put q) r);
          short = omega (arith, hex_long form, p.short, q.end, r.end);
        }

pub ruleset form = (form_room_lem, form_end, form_put)
