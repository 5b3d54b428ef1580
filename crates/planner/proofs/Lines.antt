-- A line run: what its questions ask for, and what each command leaves. Assumes nothing.
use Prim.Native.Nat.{ℕ, ◌+◌, ◌-◌, ◌*◌, ◌≤◌}
use mathlib.Core.Path.{◌≡◌, refl, sym, ap, ◌∙◌}
use mathlib.Core.Bool.{Bool, true, false}
use mathlib.Core.List.{List, [], ◌++◌}
use native.Mathlib.Omega.{arith}
use lib.Dec.{leb}
use lib.IntN.{ℤ}
use lib.ListN.{length, take, drop, length-take, length-drop}
use lib.Seq.{take_at, take_all, length-take-le}
use borrow.Author.Tests.{leb-true, le-ltb}
use Rattle.basis.proofs.Branch.{pick_true, pick_false}
use Rattle.limits.specs.Limits.{most_nodes, most_circuits, tidy_records}
use Rattle.moves.specs.MoveList.{recorded}
use Rattle.buffer.specs.Put.{Put, Printed}
use Rattle.buffer.specs.Appended.{Appended}
use Rattle.buffer.proofs.Put.{wider}
use Rattle.text.specs.Bytes.{bytes}
use Rattle.grid.specs.Tuning.{tuned_of, carried_of}
use Rattle.ring.specs.Table.{meets_rules}
use Rattle.ring.specs.Tidying.{tidying_by, decide_tidy_of}
use Rattle.ring.specs.declared.RingTable.{RingTable}
use Rattle.ring.specs.declared.TidyDecision.{TidyDecision}
use Rattle.ring.proofs.TableRules.{few_nodes}
use Rattle.ring.proofs.Rounds.{tidy_long, few_moves, tidy_rules}
use Rattle.roster.specs.declared.Heading.{Heading}
use Rattle.roster.specs.Roster.{places_of}
use Rattle.roster.specs.Held.{Holds, table_in, HoldsTable}
use Rattle.roster.proofs.Holding.{held_most}
use Rattle.print.specs.Answers.{line_refused, move_lines}
use Rattle.form.specs.Form.{form_of, longest_form}
use Rattle.load.specs.Load.{loads}
use Rattle.load.specs.Report.{report_of, buffer_after}
use Rattle.load.proofs.Filled.{loads_length}
use Rattle.link_question.specs.Link.{link_of}
use Rattle.std.specs.Prelude.{Option, Some, None}
use Rattle.commands.specs.declared.Command.{Command}
use Rattle.commands.specs.declared.Command.TheVariants.{Read, ReadFile, Ask, Frequency, Wavelength, Tidy, From, Desk as at_desk}
use Rattle.commands.specs.declared.Question.{Question}
use Rattle.commands.specs.declared.Question.TheVariants.{Write, WriteFile, Load, Link, Circuits, Show, To, Nodes}
use Rattle.commands.specs.Command.{longest_command, command_of}
use Rattle.inventory.specs.Lines.{form_line, form_room, length_line, length_room, load_line, load_room, link_line, link_room, circuits_text, circuits_room}
use Rattle.lasers.specs.Lines.{frequency_line, frequency_room, wavelength_line, wavelength_room}
use Rattle.row_lines.specs.Lines.{from_text, from_room}
use Rattle.node_lines.specs.Lines.{to_text, nodes_text, nodes_room}
use Rattle.tidy_lines.specs.Lines.{tidy_line, tidy_room}
use Rattle.picture.specs.Room.{picture_room}
use Rattle.desk.specs.Desk.{Desk, desk_of, answer_room, Outcome, refuse, run_line, HasRun}
use Rattle.desk.specs.declared.Ran.{Ran}
use Rattle.desk.proofs.Running.{keeps_held, desk_held, no_heading}
use Rattle.planner_lines.specs.Line.{Free, says, if_ready, read_form, read_word, run_tidy, plan_line}
use Rattle.planner_lines.specs.Ran.{CanAnswer, LineAnswered, FileAnswered, LineRun}
use Rattle.planner_lines.proofs.Script.{plan_opens}
use Rattle.saved_forms.specs.Saved.{FormIn, WordRead}
use Rattle.planner.specs.Asks.{Asks, Said, FileWritten, QuestionAnswered, QuestionRun}
use Rattle.std.specs.Prelude.{Ok}

-- nothing is free, but for a picture or whether a file was written
abbrev drawn : List ℕ → Free
drawn picture = record { picture = picture; opened = false; content = []; wrote = false }

abbrev written : Bool → Free
written wrote = record { picture = []; opened = false; content = []; wrote = wrote }

-- a question answered by its line
module _ (t : RingTable) (q : Question) (l : List ℕ) (at : ℕ) (l' : List ℕ) (next : ℕ) where
  pub answered_write : q ≡ Write → Printed (form_room longest_form) l at (form_line (form_of t)) l' next → QuestionAnswered t q l at l' next
  answered_write e p = rw e (record { free = drawn []; none = refl; text = wider (omega arith) p })

  pub answered_file : (path : ℕ) → q ≡ WriteFile path → FileWritten (length (form_of t)) l at l' next → QuestionAnswered t q l at l' next
  answered_file path e p = rw e (record { free = written p.wrote; none = refl; text = wider (omega arith) p.text })

  pub answered_load : q ≡ Load → Printed (load_room (2 * most_nodes)) l at (load_line (loads t.nodes t.channels)) l' next → QuestionAnswered t q l at l' next
  answered_load e p = rw e (record { free = drawn []; none = refl; text = wider (omega arith) p })

  pub answered_link : (a b c : ℕ) → q ≡ Link a b c → Printed link_room l at (link_line (link_of t a b c)) l' next → QuestionAnswered t q l at l' next
  answered_link a b c e p = rw e (record { free = drawn []; none = refl; text = wider (omega arith) p })

  pub answered_circuits : q ≡ Circuits → Printed circuits_room l at (circuits_text t.channels) l' next → QuestionAnswered t q l at l' next
  answered_circuits e p = rw e (record { free = drawn []; none = refl; text = wider (omega arith) p })

  pub answered_show : q ≡ Show → Appended picture_room l at l' next → QuestionAnswered t q l at l' next
  answered_show e p = rw e (record { free = drawn p.some.text; none = refl; text = record { put = p.some.put; short = p.short } })

  pub answered_to : (node : ℕ) → q ≡ To node → Printed from_room l at (to_text t.nodes t.channels node) l' next → QuestionAnswered t q l at l' next
  answered_to node e p = rw e (record { free = drawn []; none = refl; text = wider (omega arith) p })

  pub answered_nodes : q ≡ Nodes → Printed nodes_room l at (nodes_text t.nodes t.ports t.channels) l' next → QuestionAnswered t q l at l' next
  answered_nodes e p = rw e (record { free = drawn []; none = refl; text = wider (omega arith) p })

pub ruleset answers = (answered_write, answered_file, answered_load, answered_link, answered_circuits, answered_show, answered_to, answered_nodes)

-- a form written to a file, or not
pub file_written : (n : ℕ) (l : List ℕ) (at : ℕ) (l' : List ℕ) (next k : ℕ) → k ≡ n → Printed length_room l at (length_line k) l' next → FileWritten n l at l' next
file_written n l at l' next k e p = record { wrote = true; text = rw (← e) p }

pub file_unwritten : (n : ℕ) (l : List ℕ) (at : ℕ) (l' : List ℕ) (next : ℕ) → Put l at (bytes "write failed\n") l' next → FileWritten n l at l' next
file_unwritten n l at l' next p = record { wrote = false; text = record { put = p; short = omega (arith, p.end) } }

-- a form in lent bytes is as long as it is
pub form_counted : (t : RingTable) (form : List ℕ) (n : ℕ) → FormIn t form n → n ≡ length (form_of t)
form_counted t form n f = sym (length-take-le n form f.within) ∙ ap length f.is

-- a line that needs a table, where there is one and where there is none
ready_is : (d : Desk) (o : Outcome) → d.ready ≡ true → if_ready d o ≡ o
ready_is d o h = sym (pick_true d.ready _ _ _ h refl)

unready_is : (d : Desk) (o : Outcome) → d.ready ≡ false → if_ready d o ≡ refuse d
unready_is d o h = sym (pick_false d.ready _ _ _ h refl)

module _ (d : Option Heading) (keys rests l : List ℕ) (at : ℕ) (q : CanAnswer d keys rests l at) where
  -- a text was printed, and the desk stays
  pub said : (text l' : List ℕ) (r : Ran) → Said d text l at l' r → LineAnswered (says (desk_of d keys rests) text) l at keys rests l' r
  said text l' r s = record { desk = rw s.desk; text = s.printed; keeps = rw s.desk q.keeps }

  said_ready : (text l' : List ℕ) (r : Ran) → (desk_of d keys rests).ready ≡ true → Said d text l at l' r → LineAnswered (if_ready (desk_of d keys rests) (says (desk_of d keys rests) text)) l at keys rests l' r
  said_ready text l' r h s = rw (ready_is (desk_of d keys rests) (says (desk_of d keys rests) text) h) (said text l' r s)

  -- a line was refused
  abbrev Refused : List ℕ → Ran → Type 0
  Refused l' r = (r.desk ≡ d) × Printed answer_room l at line_refused l' r.next

  said_refused : (l' : List ℕ) (r : Ran) → Refused l' r → LineAnswered (says (desk_of d keys rests) line_refused) l at keys rests l' r
  said_refused l' r s = said line_refused l' r (record { desk = s.0; printed = wider (omega arith) s.1 })

  said_unready : (o : Outcome) (l' : List ℕ) (r : Ran) → ((h : Heading) → d ≡ Some h → ⊥) → Refused l' r → LineAnswered (if_ready (desk_of d keys rests) o) l at keys rests l' r
  said_unready o l' r h s = rw (unready_is (desk_of d keys rests) o (rw (no_heading d h))) (said_refused l' r s)

  pub refuse_room : at + answer_room ≤ length l
  refuse_room = omega (arith, q.room)

  pub long_keys_lem : length keys ≡ most_circuits
  long_keys_lem = q.keeps.long_keys

  pub long_rests_lem : length rests ≡ most_circuits
  long_rests_lem = q.keeps.long_rests

  -- a word is read
  module _ (word form : List ℕ) (ds : Option ℕ) (w : WordRead word form ds) where
    pub word_taken : (n : ℕ) (keys' rests' l' : List ℕ) (r : Ran) → ds ≡ Some n → LineAnswered (read_form (desk_of d keys rests) (take n form)) l at keys' rests' l' r
        → LineAnswered (read_word (desk_of d keys rests) word) l at keys' rests' l' r
    unfolding read_word
    word_taken n keys' rests' l' r e h = let k = rw e at w in rw (k.1, ← k.2) h

    pub word_bad : (l' : List ℕ) (r : Ran) → ds ≡ None → (r.desk ≡ d) × Printed answer_room l at line_refused l' r.next → LineAnswered (read_word (desk_of d keys rests) word) l at keys rests l' r
    unfolding read_word
    word_bad l' r e s = let k = rw e at w in rw k (said_refused l' r s)

  -- before there is a table
  module _ (none : (h : Heading) → d ≡ Some h → ⊥) (l' : List ℕ) (r : Ran) (s : (r.desk ≡ d) × Printed answer_room l at line_refused l' r.next) where
    pub unready_question : (a : Question) → QuestionRun (desk_of d keys rests) a l at keys rests l' r
    unready_question a = record { free = drawn []; none = refl; ran = said_unready _ l' r none s }

    pub unready_from : (text : List ℕ) → LineAnswered (if_ready (desk_of d keys rests) (says (desk_of d keys rests) text)) l at keys rests l' r
    unready_from text = said_unready _ l' r none s

    pub unready_tidy : LineAnswered (run_tidy (desk_of d keys rests)) l at keys rests l' r
    unfolding run_tidy
    unready_tidy = said_unready _ l' r none s

  -- the table of an accepted ring
  module _ (heading : Heading) (some : d ≡ Some heading) where
    held : HoldsTable (table_in heading keys rests) heading keys rests
    held = q.keeps.held heading some

    most : heading.count ≤ most_circuits
    most = held_most (table_in heading keys rests) heading keys rests held

    pub keys_within : heading.count ≤ length keys
    keys_within = omega (arith, most, long_keys_lem)

    pub rests_within : heading.count ≤ length rests
    rests_within = omega (arith, most, long_rests_lem)

    -- its entries are the keys and the rests
    pub held_entries : Holds heading.nodes heading.ports (places_of keys rests heading.count) keys rests heading.count
    held_entries = held.holds

    -- it is the desk's
    desk_table : (desk_of d keys rests).table ≡ table_in heading keys rests
    desk_table = rw some

    ready : (desk_of d keys rests).ready ≡ true
    ready = rw some

    pub from_looked : (node : ℕ) (l' : List ℕ) (next : ℕ) → Printed from_room l at (from_text heading.nodes (places_of keys rests heading.count) node) l' next
        → LineAnswered (if_ready (desk_of d keys rests) (says (desk_of d keys rests) (from_text (desk_of d keys rests).table.nodes (desk_of d keys rests).table.channels node))) l at keys rests l' (record { desk = d; next = next })
    from_looked node l' next p = said_ready _ l' _ ready (record { desk = refl; printed = rw desk_table (wider (omega arith) p) })

    module _ (t : RingTable) (is : t ≡ table_in heading keys rests) where
      pub held_valid : meets_rules t ≡ true
      held_valid = rw is held.holds.rules

      -- it can be asked
      pub asks : Asks t l at
      asks = record { rules = held_valid; room = q.room }

      pub question_run : (a : Question) (l' : List ℕ) (next : ℕ) → QuestionAnswered t a l at l' next → QuestionRun (desk_of d keys rests) a l at keys rests l' (record { desk = d; next = next })
      question_run a l' next p =
          record { free = p.free; none = p.none; ran = said_ready _ l' _ ready (record { desk = refl; printed = rw (desk_table, ← is) p.text }) }

      -- and tidied
      module _ (a : TidyDecision) (e : a ≡ decide_tidy_of t tidy_records) where
        pub tidy_few : a.moves.count ≤ tidy_records
        tidy_few = rw (e, ← tidy_long t tidy_records held_valid (tidying_by t (Ok tt)) (omega arith) refl) (few_moves t held_valid)

        pub tidied_valid : meets_rules a.tidied.table ≡ true
        tidied_valid = rw e (tidy_rules t held_valid tidy_records)

        pub tidy_run : (keys' rests' l' : List ℕ) (h : Heading) (next : ℕ) → HoldsTable a.tidied.table h keys' rests'
            → Printed tidy_room l at (tidy_line a.tidied.answer ++ move_lines (recorded a.moves)) l' next
            → LineAnswered (run_tidy (desk_of d keys rests)) l at keys' rests' l' (record { desk = Some h; next = next })
        unfolding run_tidy
        tidy_run keys' rests' l' h next H p =
            rw (ready_is (desk_of d keys rests) _ ready, desk_table, ← is, ← e) (
            record {
              desk = desk_held a.tidied.table h keys' rests' H;
              text = wider (omega arith) p;
              keeps = keeps_held a.tidied.table h keys' rests' H;
            })

pub ruleset tidied = (long_keys_lem, long_rests_lem, keys_within, rests_within, held_valid, tidy_few, tidied_valid)

-- the form of a table as a line
pub form_short : (t : RingTable) (form : List ℕ) (n : ℕ) → FormIn t form n → length (take n form) ≤ longest_form
form_short t form n f = omega (arith, length-take-le n form f.within, f.most)

pub form_line_lem : (t : RingTable) (form : List ℕ) (n : ℕ) (l : List ℕ) (at : ℕ) (l' : List ℕ) (next : ℕ) → FormIn t form n → Printed (form_room longest_form) l at (form_line (take n form)) l' next
    → Printed (form_room longest_form) l at (form_line (form_of t)) l' next
form_line_lem t form n l at l' next f p = rw f.is at p

-- the answer to the one-link question as a line
pub link_line_lem : (most : ℕ) (l : List ℕ) (at a b : ℕ) (l' : List ℕ) (next : ℕ) → a ≡ b → Printed most l at (link_line a) l' next → Printed most l at (link_line b) l' next
link_line_lem most l at a b l' next e p = rw (← e) p

-- the loads of a table
module _ (t : RingTable) (out : List ℕ) (at : ℕ) (q : Asks t out at) (l l' : List ℕ) (width : length l ≡ 2 * most_nodes) where
  few : t.nodes ≤ most_nodes
  few = few_nodes t q.rules

  -- they are within the bytes that are lent
  pub loads_within : 2 * t.nodes ≤ length l
  loads_within = omega (arith, few)

  pub loads_room : at + load_room (length (take (2 * t.nodes) l)) ≤ length out
  loads_room = omega (arith, few, q.room, length-take-le (2 * t.nodes) l loads_within)

  -- and stand at their start
  loads_first : l' ≡ buffer_after t l → take (2 * t.nodes) l' ≡ loads t.nodes t.channels
  unfolding report_of
  loads_first e =
      let k : l' ≡ loads t.nodes t.channels ++ drop (2 * t.nodes) l = e ∙ rw (q.rules, le-ltb (length l) (2 * t.nodes) loads_within) in
      rw k (take_at (loads t.nodes t.channels) (drop (2 * t.nodes) l) (2 * t.nodes) (loads_length t.nodes t.channels t.nodes))

  pub load_line_lem : l' ≡ buffer_after t l → (out' : List ℕ) (next : ℕ) → Printed (load_room (length (take (2 * t.nodes) l'))) out at (load_line (take (2 * t.nodes) l')) out' next
      → Printed (load_room (2 * most_nodes)) out at (load_line (loads t.nodes t.channels)) out' next
  load_line_lem e out' next p =
      let r : Printed (load_room (length (loads t.nodes t.channels))) out at (load_line (loads t.nodes t.channels)) out' next = rw (loads_first e) at p in
      record { put = r.put; short = omega (arith, r.short, loads_length t.nodes t.channels t.nodes, few) }

pub ruleset lines = (form_short, form_line_lem, link_line_lem, loads_within, loads_room, load_line_lem, file_written, file_unwritten, form_counted)

-- what `read` is given of a line: two digits for each byte of a form
module _ (l : List ℕ) (r : Command) (s : ℕ) (e : r ≡ command_of l) (k : r ≡ Read s) where
  pub read_short : length (take (length l - s) (drop s l)) ≤ longest_command
  unfolding command_of
  read_short = simp (length-take, length-drop) (omega (arith, short (leb (length l) longest_command) refl))
    where
      short : (t : Bool) → leb (length l) longest_command ≡ t → length l ≤ longest_command
      short true h = leb-true (length l) longest_command h
      short false h = let i : Read s ≡ at_desk = rw (← k, e, h) in let z : ◌≡◌ {A = ℕ} 0 1 = cc in absurd (omega arith)

-- a line was run, by its command
module _ (d : Option Heading) (keys rests line l : List ℕ) (at : ℕ) (q : CanAnswer d keys rests l at) (c : Command) (is : c ≡ command_of line) where
  whole : (free : Free) (keys' rests' l' : List ℕ) (r : Ran) → free.content ≡ [] → LineAnswered (plan_line free (desk_of d keys rests) line) l at keys' rests' l' r
      → LineRun (desk_of d keys rests) line l at keys' rests' l' r
  whole free keys' rests' l' r none h = record { free = free; few = rw none (omega arith); ran = h }

  -- a question is the line's
  pub asked_is : (a : Question) → c ≡ Ask a → Ask a ≡ command_of line
  asked_is a e = sym e ∙ is

  -- the rest of a line is all of it
  rest_is : (s : ℕ) → take (length line - s) (drop s line) ≡ drop s line
  rest_is s = take_all (length line - s) (drop s line) (omega (arith, length-drop s line))

  pub run_word : (s : ℕ) (keys' rests' l' : List ℕ) (r : Ran) → c ≡ Read s → LineAnswered (read_word (desk_of d keys rests) (take (length line - s) (drop s line))) l at keys' rests' l' r
      → LineRun (desk_of d keys rests) line l at keys' rests' l' r
  unfolding plan_line
  run_word s keys' rests' l' r e h = whole (drawn []) keys' rests' l' r refl (rw (← is, e, ← rest_is s) h)

  pub run_file : (s : ℕ) (keys' rests' l' : List ℕ) (r : Ran) → c ≡ ReadFile s → FileAnswered (desk_of d keys rests) l at keys' rests' l' r
      → LineRun (desk_of d keys rests) line l at keys' rests' l' r
  unfolding plan_line
  run_file s keys' rests' l' r e h =
      record { free = record { picture = []; opened = h.opened; content = h.content; wrote = false }; few = h.few; ran = rw (← is, e) h.ran }

  pub run_asked : (a : Question) (l' : List ℕ) (r : Ran) → c ≡ Ask a → QuestionRun (desk_of d keys rests) a l at keys rests l' r
      → LineRun (desk_of d keys rests) line l at keys rests l' r
  unfolding plan_line
  run_asked a l' r e h = whole h.free keys rests l' r h.none (rw (← is, e) h.ran)

  pub run_frequency : (s : ℕ) (z : ℤ) (w : ℕ) (l' : List ℕ) (next : ℕ) → c ≡ Frequency s z w
      → Printed frequency_room l at (frequency_line (tuned_of (record { spacing = s; start = z }) w)) l' next
      → LineRun (desk_of d keys rests) line l at keys rests l' (record { desk = d; next = next })
  unfolding plan_line
  run_frequency s z w l' next e p =
      whole (drawn []) keys rests l' _ refl (rw (← is, e) (said d keys rests l at q _ l' _ (record { desk = refl; printed = wider (omega arith) p })))

  pub run_wavelength : (s : ℕ) (z : ℤ) (f : ℕ) (l' : List ℕ) (next : ℕ) → c ≡ Wavelength s z f
      → Printed wavelength_room l at (wavelength_line (carried_of (record { spacing = s; start = z }) f)) l' next
      → LineRun (desk_of d keys rests) line l at keys rests l' (record { desk = d; next = next })
  unfolding plan_line
  run_wavelength s z f l' next e p =
      whole (drawn []) keys rests l' _ refl (rw (← is, e) (said d keys rests l at q _ l' _ (record { desk = refl; printed = wider (omega arith) p })))

  pub run_tidied : (keys' rests' l' : List ℕ) (r : Ran) → c ≡ Tidy → LineAnswered (run_tidy (desk_of d keys rests)) l at keys' rests' l' r
      → LineRun (desk_of d keys rests) line l at keys' rests' l' r
  unfolding plan_line
  run_tidied keys' rests' l' r e h = whole (drawn []) keys' rests' l' r refl (rw (← is, e) h)

  pub run_looked : (node : ℕ) (l' : List ℕ) (r : Ran) → c ≡ From node
      → LineAnswered (if_ready (desk_of d keys rests) (says (desk_of d keys rests) (from_text (desk_of d keys rests).table.nodes (desk_of d keys rests).table.channels node))) l at keys rests l' r
      → LineRun (desk_of d keys rests) line l at keys rests l' r
  unfolding plan_line
  run_looked node l' r e h = whole (drawn []) keys rests l' r refl (rw (← is, e) h)

  -- a line that the desk ran
  pub run_desk : (keys' rests' l' : List ℕ) (r : Ran) → c ≡ at_desk → HasRun (run_line (desk_of d keys rests) line) l at keys' rests' l' r
      → LineRun (desk_of d keys rests) line l at keys' rests' l' r
  unfolding plan_line
  run_desk keys' rests' l' r e h =
      whole (drawn []) keys' rests' l' r refl (rw (← is, e) (record { desk = h.desk; text = wider (omega arith) h.text; keeps = h.keeps }))

-- for `search (rules, run_by)`: a line was run, and demand 3 holds of what it left
pub ruleset run_by = (plan_opens, run_word, run_file, run_asked, run_frequency, run_wavelength, run_tidied, run_looked, run_desk)
