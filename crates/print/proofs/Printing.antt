-- The lines of an answer, from their words with the numbers put in. Assumes nothing.
use mathlib.Core.Path.{◌≡◌}
use mathlib.Core.List.{List, [], ◌∷◌}
use Prim.Native.Nat.{ℕ}
use Prim.Native.String.{String}
use native.Mathlib.Omega.{arith}
use lib.Seq.{take_all}
use Rattle.lightpath.specs.declared.Place.{Place}
use Rattle.moves.specs.Records.{listed}
use Rattle.moves.specs.declared.Move.{Move}
use Rattle.moves.specs.declared.Moves.{Moves}
use Rattle.refusals.specs.Refusal.{number_of, Verdict}
use Rattle.refusals.specs.declared.Refusal.{Refusal}
use Rattle.text.specs.Bytes.{bytes}
use Rattle.buffer.specs.Put.{Put, Printed}
use Rattle.buffer.proofs.Put.{put_none, put_put}
use Rattle.print.specs.Answers.{piece, ring_line, close_line, open_line, move_line, move_lines, open_room, move_room, close_room, ring_room}
use Rattle.print.specs.Filled.{filled, filled_room}
use Rattle.ring.specs.Opening.{Opening}
use Rattle.ring.specs.declared.Taken.{Taken}
use Rattle.std.specs.Prelude.{Ok, Err}

module _ (l l' : List ℕ) (at e : ℕ) where
  -- words were printed with numbers put in
  abbrev Prints : String → ℕ → ℕ → ℕ → ℕ → Type 0
  Prints words a b c d = Printed (filled_room (bytes words)) l at (filled (bytes words) a b c d) l' e

  -- a number that is another
  pub number_is : (most : ℕ) (words : List ℕ) (m n : ℕ) → m ≡ n → Printed most l at (filled words m 0 0 0) l' e → Printed most l at (filled words n 0 0 0) l' e
  number_is most words m n h p = rw (← h) p

  pub ring_made : (n w : ℕ) (v : Verdict) → v ≡ Ok tt → Prints "ring # wavelengths #\n" n w 0 0 → Printed ring_room l at (ring_line n w v) l' e
  unfolding filled piece
  ring_made n w v h p = rw h p

  pub ring_refused : (n w : ℕ) (v : Verdict) (r : Refusal) → v ≡ Err r → Prints "ring refused #\n" (number_of r) 0 0 0
      → Printed ring_room l at (ring_line n w v) l' e
  unfolding filled piece
  ring_refused n w v r h p = record { put = rw h p.put; short = omega (arith, p.short) }

  pub closed : (n : ℕ) (v : Verdict) → v ≡ Ok tt → Prints "close #\n" n 0 0 0 → Printed close_room l at (close_line n v) l' e
  unfolding filled piece
  closed n v h p = record { put = rw h p.put; short = omega (arith, p.short) }

  pub not_closed : (n : ℕ) (v : Verdict) (r : Refusal) → v ≡ Err r → Prints "close refused #\n" (number_of r) 0 0 0
      → Printed close_room l at (close_line n v) l' e
  unfolding filled piece
  not_closed n v r h p = rw h p

  module _ (n : ℕ) (a : Opening) where
    pub opened : (x : Taken) → a ≡ Ok x → Prints "open # place # moves # looks #\n" n x.place.0 x.moves x.looks
        → Printed open_room l at (open_line n a) l' e
    unfolding filled piece
    opened x h q = rw h q

    pub not_opened_lem : (r : Refusal) (m : ℕ) → a ≡ Err r → m ≡ number_of r → Prints "open # refused #\n" n m 0 0
        → Printed open_room l at (open_line n a) l' e
    unfolding filled piece
    not_opened_lem r m h k q = record { put = rw (h, ← k) q.put; short = omega (arith, q.short) }

  pub moved : (m : Move) → Prints "move # from # to #\n" m.number m.from.0 m.to.0 0 → Printed move_room l at (move_line m) l' e
  unfolding filled piece move_line
  moved m p = p

pub ruleset lines = (number_is, ring_made, ring_refused, closed, not_closed, opened, not_opened_lem, moved)

-- the lines of up to three moves
module _ (l : List ℕ) (at : ℕ) (m : Moves) where
  pub moves_none : m.count ≡ 0 → Put l at (move_lines (listed m)) l at
  moves_none h = rw h put_none

  module _ (l1 : List ℕ) (i : ℕ) (p : Put l at (move_line m.first) l1 i) where
    pub moves_one : m.count ≡ 1 → Put l at (move_lines (listed m)) l1 i
    moves_one h = rw h (put_put p put_none)

    module _ (l2 : List ℕ) (j : ℕ) (q : Put l1 i (move_line m.second) l2 j) where
      pub moves_two : m.count ≡ 2 → Put l at (move_lines (listed m)) l2 j
      moves_two h = rw h (put_put p (put_put q put_none))

      pub moves_three : (l3 : List ℕ) (k : ℕ) → (m.count ≡ 0 → ⊥) → (m.count ≡ 1 → ⊥) → (m.count ≡ 2 → ⊥) → Put l2 j (move_line m.third) l3 k
          → Put l at (move_lines (listed m)) l3 k
      moves_three l3 k z o t r = rw (take_all m.count (m.first ∷ m.second ∷ m.third ∷ []) (omega arith)) (put_put p (put_put q (put_put r put_none)))

pub ruleset moving = (moves_none, moves_one, moves_two, moves_three)
