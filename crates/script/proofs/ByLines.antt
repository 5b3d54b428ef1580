-- A script taken in byte by byte prints what its lines print. Assumes nothing.
use Prim.Native.Nat.{ℕ, zero, suc, ◌<◌}
use mathlib.Core.Path.{◌≡◌, refl, sym, ap, ◌∙◌}
use mathlib.Core.Bool.{Bool, true, false}
use mathlib.Core.List.{List, [], ◌∷◌, ◌++◌, append_assoc, append-nil}
use native.Mathlib.Omega.{arith}
use lib.Dec.{eqb, leb}
use lib.ListN.{length, take}
use lib.Seq.{take_all, length-take-le}
use borrow.Author.Tests.{leb-true, leb-false, lt-leb, ne_eqb}
use Rattle.requests.specs.Line.{longest_line, parse_line}
use Rattle.script.specs.Script.{last_line, lines_after, lines_text, script_text}
use Rattle.script.specs.Bytes.{Script, byte_after, byte_text, after, texts, end_text, most_held, start_session, script_of}
use Rattle.desk.specs.Desk.{Desk, empty_desk, run_line}

-- a line of so many bytes is as bad as a longer one
parse_cut : (l : List ℕ) → parse_line (take most_held l) ≡ parse_line l
unfolding parse_line
parse_cut l = go (leb (length l) most_held) refl
  where
    go : (t : Bool) → leb (length l) most_held ≡ t → parse_line (take most_held l) ≡ parse_line l
    go true e = rw (take_all most_held l (leb-true (length l) most_held e))
    go false e =
        let h : most_held < length l = leb-false (length l) most_held e in
        rw (lt-leb (length (take most_held l)) longest_line (simp (length-take-le most_held l (omega arith)) (omega arith)), lt-leb (length l) longest_line (omega arith))

run_cut : (d : Desk) (l : List ℕ) → run_line d (take most_held l) ≡ run_line d l
run_cut d l = rw (parse_cut l)

-- bytes that are held up to a number, and others after them
pub take_more : (n : ℕ) (l r : List ℕ) → take n (take n l ++ r) ≡ take n (l ++ r)
take_more zero l r = refl
take_more (suc n) [] r = refl
take_more (suc n) (x ∷ l) r = ap (λ (t : List ℕ). x ∷ t) (take_more n l r)

-- the script of a desk and the bytes w of a line that has begun
abbrev holding : Desk → List ℕ → Script
holding d w = record { desk = d; held = take most_held w }

-- the end of the input prints what the last line prints, if there is one
last_printed : (d : Desk) (w : List ℕ) → end_text (holding d w) ≡ lines_text d (last_line w)
unfolding lines_text
last_printed d [] = refl
last_printed d (x ∷ w) = rw (ne_eqb (length (take most_held (x ∷ w))) 0 (λ e. omega arith), run_cut d (x ∷ w)) (sym (append-nil (run_line d (x ∷ w)).text))

-- what the rest of an input prints, and its end
unfoldable rest_text : Script → List ℕ → List ℕ
rest_text s rest = texts s rest ++ end_text (after s rest)

rest_more : (s : Script) (x : ℕ) (rest : List ℕ) → rest_text s (x ∷ rest) ≡ byte_text s x ++ rest_text (byte_after s x) rest
unfolding rest_text after texts
rest_more s x rest = append_assoc (byte_text s x) _ _

-- after the bytes w of a line it prints what its lines print
abbrev ByLines : Desk → List ℕ → List ℕ → Type 0
ByLines d w rest = rest_text (holding d w) rest ≡ lines_text d (lines_after w rest)

none_by_lines : (d : Desk) (w : List ℕ) → ByLines d w []
unfolding rest_text after texts lines_after
none_by_lines d w = last_printed d w

rest_by_lines : (d : Desk) (w rest : List ℕ) → ByLines d w rest
unfolding lines_after lines_text
rest_by_lines d w [] = none_by_lines d w
rest_by_lines d w (x ∷ rest) = go (eqb x 10) refl (rest_by_lines (run_line d w).desk [] rest) (rest_by_lines d (w ++ (x ∷ [])) rest)
  where
    go : (t : Bool) → eqb x 10 ≡ t → ByLines (run_line d w).desk [] rest → ByLines d (w ++ (x ∷ [])) rest → ByLines d w (x ∷ rest)
    go true e ended held = rest_more (holding d w) x rest ∙ rw (e, run_cut d w, ended)
    go false e ended held = rest_more (holding d w) x rest ∙ rw (e, take_more most_held w (x ∷ []), held)

-- the bytes of an input and its end print what its lines print
pub bytes_by_lines : (input : List ℕ) → texts (script_of start_session) input ++ end_text (after (script_of start_session) input) ≡ script_text input
unfolding script_text rest_text
bytes_by_lines input = rest_by_lines empty_desk [] input
