-- The script's three kinds of line are the order desk's here too, and demand 3 holds of what an opening prints. Assumes nothing.
use Prim.Native.Nat.{ℕ, ◌≤◌}
use mathlib.Core.Path.{◌≡◌, refl, sym, ◌∙◌}
use mathlib.Core.Bool.{Bool, true, false}
use mathlib.Core.List.{List, [], ◌∷◌}
use native.Mathlib.Omega.{arith}
use lib.Dec.{eqb, leb}
use lib.ListN.{length}
use borrow.Author.Tests.{eqb-true, leb-true, le-leb}
use Rattle.basis.proofs.Bools.{and_left, and_right}
use Rattle.text.specs.Bytes.{bytes}
use Rattle.words.specs.Split.{words, same_text}
use Rattle.lightpath.specs.declared.Circuit.{Circuit}
use Rattle.requests.specs.declared.Request.TheVariants.{Open, Bad}
use Rattle.requests.specs.Line.{longest_line, parse_words, parse_line}
use Rattle.commands.specs.declared.Command.TheVariants.{Desk}
use Rattle.commands.specs.Command.{longest_command, command_words, command_of}
use Rattle.desk.specs.Desk.{Desk as DeskOf, desk_of, run_line}
use Rattle.desk.specs.Demand3.{Opens, left_by}
use Rattle.std.specs.Prelude.{Option}
use Rattle.roster.specs.declared.Heading.{Heading}
use Rattle.desk.specs.declared.Ran.{Ran}
use Rattle.desk.proofs.Opens.{left_is, line_opens}
use Rattle.planner_lines.specs.Line.{Free, plan_line}
use Rattle.planner_lines.specs.Ran.{CanAnswer, LineRun}

-- texts that are the same are one
same_is : (a b : List ℕ) → same_text a b ≡ true → a ≡ b
same_is [] [] h = refl
same_is [] (y ∷ b) h = cc
same_is (x ∷ a) [] h = cc
same_is (x ∷ a) (y ∷ b) h =
    let e : x ≡ y = eqb-true x y (and_left (eqb x y) (same_text a b) h) in
    let k : a ≡ b = same_is a b (and_right (eqb x y) (same_text a b) h) in
    rw (e, k)

-- by the words of a line
by_words : (l : List ℕ) (ws : List (List ℕ)) → ((parse_words ws).request ≡ Bad → ⊥) → command_words l ws ≡ Desk
unfolding parse_words command_words
by_words l [] n = refl
by_words l (w ∷ ws) n = ring (same_text w (bytes "ring")) refl
  where
    close : (t : Bool) → same_text w (bytes "close") ≡ t → same_text w (bytes "ring") ≡ false → same_text w (bytes "open") ≡ false → command_words l (w ∷ ws) ≡ Desk
    close true e a b = rw (same_is w (bytes "close") e)
    close false e a b = absurd (n (rw (a, b, e)))

    open_line_lem : (t : Bool) → same_text w (bytes "open") ≡ t → same_text w (bytes "ring") ≡ false → command_words l (w ∷ ws) ≡ Desk
    open_line_lem true e a = rw (same_is w (bytes "open") e)
    open_line_lem false e a = close (same_text w (bytes "close")) refl a e

    ring : (t : Bool) → same_text w (bytes "ring") ≡ t → command_words l (w ∷ ws) ≡ Desk
    ring true e = rw (same_is w (bytes "ring") e)
    ring false e = open_line_lem (same_text w (bytes "open")) refl e

-- Law: a line that the script program does not refuse is run by the same call: with `run_line`'s promise, it prints the same to the byte
pub script_line : (l : List ℕ) → ((parse_line l).request ≡ Bad → ⊥) → command_of l ≡ Desk
unfolding parse_line command_of
script_line l n = go (leb (length l) longest_line) refl
  where
    go : (t : Bool) → leb (length l) longest_line ≡ t → command_of l ≡ Desk
    go true e =
        let h : length l ≤ longest_command = omega (arith, leb-true (length l) longest_line e) in
        rw (le-leb (length l) longest_command h) (by_words l (words l) (λ b. n (rw e b)))
    go false e = absurd (n (rw e))

-- Law: a line that the script program does not refuse has the script's outcome
pub script_outcome : (free : Free) (d : DeskOf) (l : List ℕ) → ((parse_line l).request ≡ Bad → ⊥) → plan_line free d l ≡ run_line d l
unfolding plan_line
script_outcome free d l n = rw (script_line l n)

-- a line that asks for an opening is none that asks for nothing
asks_some : (l : List ℕ) (c : Circuit) → (parse_line l).request ≡ Open c → (parse_line l).request ≡ Bad → ⊥
asks_some l c e k = let i : Open c ≡ Bad = sym e ∙ k in let z : ◌≡◌ {A = ℕ} 0 1 = cc in omega arith

-- Demand 3: what an opening in `ringplan` leaves and prints is the table, place, moves, looks and records of which demand 3 holds
pub plan_opens : (d : Option Heading) (keys rests line l : List ℕ) (at : ℕ) (keys' rests' l' : List ℕ) (r : Ran) → CanAnswer d keys rests l at
    → LineRun (desk_of d keys rests) line l at keys' rests' l' r → Opens (desk_of d keys rests) line (left_by at keys' rests' l' r)
plan_opens d keys rests line l at keys' rests' l' r s h =
    rw (left_is (plan_line h.free (desk_of d keys rests) line) l at keys' rests' l' r h.ran.desk h.ran.text.put (omega (arith, h.ran.text.short, s.room)))
    (record { each = λ c e ready. rw (script_outcome h.free (desk_of d keys rests) line (asks_some line c e)) ((line_opens d keys rests line s.keeps).each c e ready) })
