-- Scripts and what they print by the definitions: document 01's own, one that moves three circuits, and those at the borders of 01's words.
-- Assumes nothing.
use Prim.Native.Nat.{ℕ}
use Prim.Native.String.{String}
use mathlib.Core.Path.{◌≡◌, refl}
use mathlib.Core.List.{List, [], ◌∷◌, ◌++◌, map}
use lib.ListN.{replicate}
use Rattle.lightpath.specs.Circuit.{ahead}
use Rattle.lit_words.specs.Lit.{none_lit_from}
use Rattle.steps.specs.Steps.{unlit_place, plan_of}
use Rattle.ring.specs.Making.{make_of}
use Rattle.ring.specs.Opening.{decide_of}
use Rattle.ring.specs.Closing.{close_of}
use Rattle.text.specs.Bytes.{bytes}
use Rattle.text.specs.Decimal.{digits_up_to, decimal}
use Rattle.text.specs.Number.{number_after, number}
use Rattle.words.specs.Split.{words_after}
use Rattle.words.specs.Parse.{field}
use Rattle.requests.specs.Line.{ports_after, parse_ring, parse_open, parse_close, parse_words, parse_line}
use Rattle.print.specs.Answers.{piece, move_line}
use Rattle.script.specs.Script.{lines_after, lines_text, script_text}
use Rattle.desk.specs.Desk.{run_ring, run_open, run_close}

-- lines, each with its line end
abbrev lines : List String → List ℕ
lines [] = []
lines (s ∷ ss) = bytes s ++ (10 ∷ lines ss)

-- document 01's script, and its output
abbrev script : List String
script =
    "ring 5 1 1 1 1 1"
    ∷ "open 11 1 5 0 0"
    ∷ "open 12 2 3 0 0"
    ∷ "open 13 4 1 0 0"
    ∷ "open 14 3 2 0 0"
    ∷ "open 15 5 4 0 0"
    ∷ "open 16 1 2 0 0"
    ∷ "close 13"
    ∷ "open 16 4 1 0 0"
    ∷ []

abbrev output : List String
output =
    "ring 5 wavelengths 2"
    ∷ "open 11 place 1 moves 0 looks 0"
    ∷ "open 12 place 0 moves 0 looks 0"
    ∷ "open 13 place 1 moves 0 looks 0"
    ∷ "open 14 place 0 moves 0 looks 0"
    ∷ "open 15 place 3 moves 0 looks 0"
    ∷ "open 16 refused 13"
    ∷ "close 13"
    ∷ "open 16 place 1 moves 0 looks 0"
    ∷ []

-- examples/three-moves.script, and its output
abbrev moving : List String
moving =
    "ring 6 1 1 1 1 1 1"
    ∷ "open 21 1 2 0 0"
    ∷ "open 22 3 6 0 0"
    ∷ "open 23 4 5 0 0"
    ∷ "open 24 5 3 0 0"
    ∷ "open 25 6 4 0 0"
    ∷ []

abbrev moved : List String
moved =
    "ring 6 wavelengths 2"
    ∷ "open 21 place 0 moves 0 looks 0"
    ∷ "open 22 place 2 moves 0 looks 0"
    ∷ "open 23 place 1 moves 0 looks 0"
    ∷ "open 24 place 3 moves 0 looks 0"
    ∷ "open 25 place 3 moves 3 looks 6"
    ∷ "move 21 from 0 to 1"
    ∷ "move 23 from 1 to 0"
    ∷ "move 24 from 3 to 0"
    ∷ []

abbrev cases : List (List ℕ × List ℕ)
cases =
    (lines script, lines output)
    ∷ (lines moving, lines moved)
    -- no line, and lines with nothing in them
    ∷ (bytes "", bytes "")
    ∷ (bytes "\n\n", bytes "line refused\nline refused\n")
    -- a last line without its end is run like any other
    ∷ (bytes "ring 3 1 1 1", bytes "ring 3 wavelengths 1\n")
    ∷ (bytes "ring 3 1 1 1\nclose 7", bytes "ring 3 wavelengths 1\nclose refused 15\n")
    -- before the first accepted ring
    ∷ (bytes "open 1 1 2 0 0\nclose 1\nring 2 1 1\nopen 1 1 2 0 0\n", bytes "line refused\nline refused\nring refused 1\nline refused\n")
    -- a refused ring keeps the old table, and an accepted one takes its place
    ∷ (bytes "ring 3 1 1 1\nopen 1 1 2 0 0\nring 3 65 1 1\nclose 1\n", bytes "ring 3 wavelengths 1\nopen 1 place 0 moves 0 looks 0\nring refused 2\nclose 1\n")
    ∷ (bytes "ring 3 1 1 1\nopen 1 1 2 0 0\nring 3 1 1 1\nclose 1\n", bytes "ring 3 wavelengths 1\nopen 1 place 0 moves 0 looks 0\nring 3 wavelengths 1\nclose refused 15\n")
    -- an opening has five numbers; its account is not printed
    ∷ (bytes "ring 3 1 1 1\nopen 1 1 2 0\nopen 1 1 2 0 4294967295\n", bytes "ring 3 wavelengths 1\nline refused\nopen 1 place 0 moves 0 looks 0\n")
    -- leading zeros are read and not printed
    ∷ (bytes "ring 003 01 001 1\nopen 0007 1 2 0 0\n", bytes "ring 3 wavelengths 1\nopen 7 place 0 moves 0 looks 0\n")
    -- a line over 256 bytes is one refused line, and the next is run
    ∷ (replicate 257 48 ++ bytes "\nring 3 1 1 1\n", bytes "line refused\nring 3 wavelengths 1\n")
    ∷ []

-- each script prints what the table says
pub cases_printed : map (λ c. script_text c.0) cases ≡ map (λ c. c.1) cases
unfolding script_text lines_text lines_after run_ring run_open run_close piece move_line parse_line parse_words parse_ring parse_open parse_close ports_after field words_after number number_after decimal digits_up_to make_of decide_of close_of unlit_place plan_of ahead none_lit_from
cases_printed = refl
