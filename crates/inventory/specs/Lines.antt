-- What is printed in answer to `read`, `write`, `load`, `link` and `circuits`. Assumes nothing.
use Rattle.std.specs.Prelude.{ℕ, suc, ◌+◌, ◌*◌, ◌%◌, List, [], ◌∷◌, ◌++◌, eqb, ltb, length, Ok, Err}
use Rattle.basis.specs.Choice.{pick}
use Rattle.limits.specs.Limits.{circuit_room}
use Rattle.lightpath.specs.declared.Circuit.{Circuit}
use Rattle.slots.specs.Slot.{held}
use Rattle.channels.specs.Channels.{Channels, circuits}
use Rattle.refusals.specs.Refusal.{number_of, Verdict}
use Rattle.link_question.specs.Link.{no_circuit}
use Rattle.text.specs.Bytes.{bytes}
use Rattle.hex_text.specs.Hex.{hex_of}
use Rattle.print.specs.Answers.{piece, line_of}
use Rattle.print.specs.Filled.{filled_room}

-- `read N wavelengths W`, or `read refused R`
abbrev pub read_line : ℕ → ℕ → Verdict → List ℕ
read_line n w (Ok _) = line_of (("read ", n) ∷ (" wavelengths ", w) ∷ [])
read_line n w (Err r) = line_of (("read refused ", number_of r) ∷ [])

-- `write LENGTH HEX`
unfoldable pub form_line : List ℕ → List ℕ
form_line form = piece (bytes "write ") (length form) ++ (bytes " " ++ (hex_of form ++ bytes "\n"))

-- `write LENGTH`
abbrev pub length_line : ℕ → List ℕ
length_line n = line_of (("write ", n) ∷ [])

-- numbers, each after a space, and the line end
unfoldable pub numbers_line : List ℕ → List ℕ
numbers_line [] = bytes "\n"
numbers_line (k ∷ ks) = piece (bytes " ") k ++ numbers_line ks

-- `load` and 2 × N numbers
unfoldable pub load_line : List ℕ → List ℕ
load_line loads = bytes "load" ++ numbers_line loads

-- `link circuit NUMBER`, `link none` or `link refused R`, by the question's 64-bit answer; R is its lowest byte
unfoldable pub link_line : ℕ → List ℕ
link_line a =
    pick (ltb a no_circuit) (line_of (("link circuit ", a) ∷ []))
    (pick (eqb a no_circuit) (bytes "link none\n")
    (line_of (("link refused ", a % 256) ∷ [])))

-- `circuit NUMBER from SOURCE to DESTINATION remark REMARK account ACCOUNT place PLACE`
unfoldable pub circuit_line : ℕ → Circuit → List ℕ
circuit_line p c =
    line_of (
    ("circuit ", c.number)
    ∷ (" from ", c.source)
    ∷ (" to ", c.destination)
    ∷ (" remark ", c.remark)
    ∷ (" account ", c.account)
    ∷ (" place ", p)
    ∷ []
    )

-- a line for each circuit of place p, the lower number first
unfoldable pub circuit_lines : ℕ → List Circuit → List ℕ
circuit_lines p [] = []
circuit_lines p (c ∷ cs) = circuit_line p c ++ circuit_lines p cs

-- those of the places from p on
unfoldable pub place_lines : ℕ → Channels → List ℕ
place_lines p [] = []
place_lines p (ch ∷ chs) = circuit_lines p (held ch.slot) ++ place_lines (suc p) chs

-- `circuits COUNT`, then by rising place a line each
unfoldable pub circuits_text : Channels → List ℕ
circuits_text t = line_of (("circuits ", length (circuits t)) ∷ []) ++ place_lines 0 t

-- The most bytes that each takes, with ten digits in place of each `#`; the words are those of the longer line where there are two.
abbrev pub read_room : ℕ
read_room = filled_room (bytes "read # wavelengths #\n")

-- for a form of so many bytes
abbrev pub form_room : ℕ → ℕ
form_room n = filled_room (bytes "write # ") + (2 * n + 1)

abbrev pub length_room : ℕ
length_room = filled_room (bytes "write #\n")

-- one number, and so many with the line end
abbrev pub number_room : ℕ
number_room = filled_room (bytes " #")

abbrev pub numbers_room : ℕ → ℕ
numbers_room n = number_room * n + 1

abbrev pub load_room : ℕ → ℕ
load_room n = length (bytes "load") + numbers_room n

abbrev pub link_room : ℕ
link_room = filled_room (bytes "link circuit #\n")

-- one circuit, those of a place, those of all places
abbrev pub circuit_line_room : ℕ
circuit_line_room = filled_room (bytes "circuit # from # to # remark # account # place #\n")

abbrev pub place_room : ℕ
place_room = 2 * circuit_line_room

abbrev pub places_room : ℕ
places_room = circuit_room * circuit_line_room

abbrev pub circuits_room : ℕ
circuits_room = filled_room (bytes "circuits #\n") + places_room
