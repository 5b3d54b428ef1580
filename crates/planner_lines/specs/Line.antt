-- A line of `ringplan`, by the command that it is: the desk after it, and what it prints. Assumes nothing. What `planner::run_line` promises.
use Rattle.std.specs.Prelude.{ℕ, Bool, true, false, ◌||◌, List, [], ◌++◌, length, drop}
use Rattle.basis.specs.Choice.{pick}
use Rattle.limits.specs.Limits.{tidy_records}
use Rattle.moves.specs.MoveList.{recorded}
use Rattle.ports.specs.Ports.{wavelengths}
use Rattle.grid.specs.Tuning.{tuned_of, carried_of}
use Rattle.ring.specs.Tidying.{decide_tidy_of}
use Rattle.ring.specs.declared.RingTable.{RingTable}
use Rattle.form.specs.Form.{form_of}
use Rattle.form.specs.Reading.{read_of}
use Rattle.load.specs.Load.{loads}
use Rattle.link_question.specs.Link.{link_of}
use Rattle.text.specs.Bytes.{bytes}
use Rattle.words.specs.Split.{same_text}
use Rattle.hex_text.specs.Hex.{is_hex, bytes_of}
use Rattle.print.specs.Answers.{move_lines}
use Rattle.desk.specs.Desk.{Desk, desk_with, desk_after, Outcome, refuse, run_line}
use Rattle.commands.specs.Command.{command_of}
use Rattle.commands.specs.declared.Command.{Command}
use Rattle.commands.specs.declared.Command.TheVariants.{Read, ReadFile, Ask, Frequency, Wavelength, Tidy, From, Desk as at_desk}
use Rattle.commands.specs.declared.Question.{Question}
use Rattle.commands.specs.declared.Question.TheVariants.{Write, WriteFile, Load, Link, Circuits, Show, To, Nodes}
use Rattle.inventory.specs.Lines.{read_line, form_line, length_line, load_line, link_line, circuits_text}
use Rattle.lasers.specs.Lines.{frequency_line, wavelength_line}
use Rattle.tidy_lines.specs.Lines.{tidy_line}
use Rattle.row_lines.specs.Lines.{from_text}
use Rattle.node_lines.specs.Lines.{to_text, nodes_text}

-- what a line leaves free: the picture that `show` draws, for people; and what the file system did, whether a file could be read, the bytes
-- that it gave, and whether a file was written
pub record Free : Type 0 where
  pub picture : List ℕ
  pub opened : Bool
  pub content : List ℕ
  pub wrote : Bool

-- something is printed, and the desk stays as it is
abbrev pub says : Desk → List ℕ → Outcome
says d text = record { desk = d; text = text }

-- "a line that needs a table before there is one" prints `line refused`
abbrev pub if_ready : Desk → Outcome → Outcome
if_ready d o = pick d.ready o (refuse d)

-- a form is read: "`read N wavelengths W`; the table is the one read", or "`read refused R`", and the table stays
unfoldable pub read_form : Desk → List ℕ → Outcome
read_form d form =
    let a = read_of form in
    record { desk = desk_after d a.table a.verdict; text = read_line a.table.nodes (wavelengths a.table.ports) a.verdict }

-- a word that is a form, "an even number of hexadecimal digits 0 to 9, a to f, or `-` for no bytes", and its bytes
abbrev pub is_form : List ℕ → Bool
is_form word = same_text word (bytes "-") || is_hex word

abbrev pub form_bytes : List ℕ → List ℕ
form_bytes word = pick (same_text word (bytes "-")) [] (bytes_of word)

-- it is read; any other word is a refused line
unfoldable pub read_word : Desk → List ℕ → Outcome
read_word d word = pick (is_form word) (read_form d (form_bytes word)) (refuse d)

-- of a file: "`read failed` where the file cannot be opened or read"
unfoldable pub read_file : Desk → Bool → List ℕ → Outcome
read_file d opened content = pick opened (read_form d content) (says d (bytes "read failed\n"))

-- what is asked of a table
abbrev pub answer_text : Free → RingTable → Question → List ℕ
answer_text free t Write = form_line (form_of t)
answer_text free t (WriteFile start) = pick free.wrote (length_line (length (form_of t))) (bytes "write failed\n")
answer_text free t Load = load_line (loads t.nodes t.channels)
answer_text free t (Link link wavelength direction) = link_line (link_of t link wavelength direction)
answer_text free t Circuits = circuits_text t.channels
answer_text free t Show = free.picture
answer_text free t (To node) = to_text t.nodes t.channels node
answer_text free t Nodes = nodes_text t.nodes t.ports t.channels

-- a tidying (02, E5), with 128 records lent: "`tidy rounds R moves M`, then a `move` line for each move"
unfoldable pub run_tidy : Desk → Outcome
run_tidy d =
    let a = decide_tidy_of d.table tidy_records in
    if_ready d (record { desk = desk_with a.tidied.table; text = tidy_line a.tidied.answer ++ move_lines (recorded a.moves) })

-- the line l, by its command; a form or a path begins at a position of the line
abbrev pub run_command : Free → Desk → List ℕ → Command → Outcome
run_command free d l (Read start) = read_word d (drop start l)
run_command free d l (ReadFile start) = read_file d free.opened free.content
run_command free d l (Ask question) = if_ready d (says d (answer_text free d.table question))
run_command free d l (Frequency spacing start w) = says d (frequency_line (tuned_of (record { spacing = spacing; start = start }) w))
run_command free d l (Wavelength spacing start f) = says d (wavelength_line (carried_of (record { spacing = spacing; start = start }) f))
run_command free d l Tidy = run_tidy d
run_command free d l (From node) = if_ready d (says d (from_text d.table.nodes d.table.channels node))
run_command free d l at_desk = run_line d l

unfoldable pub plan_line : Free → Desk → List ℕ → Outcome
plan_line free d l = run_command free d l (command_of l)

-- whether a command leaves something free
abbrev pub asks_free : Question → Bool
asks_free Write = false
asks_free (WriteFile start) = true
asks_free Load = false
asks_free (Link link wavelength direction) = false
asks_free Circuits = false
asks_free Show = true
asks_free (To node) = false
asks_free Nodes = false

abbrev pub leaves_free : Command → Bool
leaves_free (Read start) = false
leaves_free (ReadFile start) = true
leaves_free (Ask question) = asks_free question
leaves_free (Frequency spacing start w) = false
leaves_free (Wavelength spacing start f) = false
leaves_free Tidy = false
leaves_free (From node) = false
leaves_free at_desk = false
