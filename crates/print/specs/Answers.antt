-- What is printed in answer to a request: document 01, "The script program and its cases". Assumes nothing.
-- What `put_opening`, `put_closing`, `put_ring` and `put_line_refused` promise.
use Rattle.std.specs.Prelude.{ℕ, ◌+◌, ◌*◌, List, [], ◌∷◌, ◌++◌, Ok, Err}
use Prim.Native.String.{String}
use Rattle.moves.specs.declared.Move.{Move}
use Rattle.moves.specs.Records.{most_moves}
use Rattle.refusals.specs.Refusal.{number_of, Verdict}
use Rattle.text.specs.Bytes.{bytes}
use Rattle.text.specs.Decimal.{decimal}
use Rattle.ring.specs.Opening.{Opening}

-- words and a number after them
unfoldable pub piece : List ℕ → ℕ → List ℕ
piece words n = words ++ decimal n

-- a line: words, each with a number after them, and the line end
abbrev pub line_of : List (String × ℕ) → List ℕ
line_of [] = bytes "\n"
line_of (p ∷ ps) = piece (bytes p.0) p.1 ++ line_of ps

-- `line refused`
abbrev pub line_refused : List ℕ
line_refused = bytes "line refused\n"

-- `ring N wavelengths W`, or `ring refused 1`
abbrev pub ring_line : ℕ → ℕ → Verdict → List ℕ
ring_line n w (Ok _) = line_of (("ring ", n) ∷ (" wavelengths ", w) ∷ [])
ring_line n w (Err r) = line_of (("ring refused ", number_of r) ∷ [])

-- `close 13`, or `close refused 15`
abbrev pub close_line : ℕ → Verdict → List ℕ
close_line n (Ok _) = line_of (("close ", n) ∷ [])
close_line n (Err r) = line_of (("close refused ", number_of r) ∷ [])

-- `open 11 place 1 moves 0 looks 0`, or `open 16 refused 13`
abbrev pub served_line : ℕ → ℕ → ℕ → ℕ → List ℕ
served_line n place moves looks = line_of (("open ", n) ∷ (" place ", place) ∷ (" moves ", moves) ∷ (" looks ", looks) ∷ [])

abbrev pub refused_line : ℕ → ℕ → List ℕ
refused_line n reason = line_of (("open ", n) ∷ (" refused ", reason) ∷ [])

abbrev pub open_line : ℕ → Opening → List ℕ
open_line n (Ok x) = served_line n x.place.0 x.moves x.looks
open_line n (Err r) = refused_line n (number_of r)

-- "move lines give number, old place, new place"
unfoldable pub move_line : Move → List ℕ
move_line m = line_of (("move ", m.number) ∷ (" from ", m.from.0) ∷ (" to ", m.to.0) ∷ [])

-- a line for each move, in their order
abbrev pub move_lines : List Move → List ℕ
move_lines [] = []
move_lines (m ∷ ms) = move_line m ++ move_lines ms

-- the most bytes that each takes, with ten digits to a number: `open # place # moves # looks #`, `move # from # to #`, `close refused #`,
-- `ring # wavelengths #` and `line refused`, each with its line end
abbrev pub open_room : ℕ
open_room = 67

abbrev pub move_room : ℕ
move_room = 46

abbrev pub close_room : ℕ
close_room = 25

abbrev pub ring_room : ℕ
ring_room = 39

abbrev pub refused_room : ℕ
refused_room = 13

-- an opening's line and its move lines
abbrev pub opening_room : ℕ
opening_room = open_room + most_moves * move_room
