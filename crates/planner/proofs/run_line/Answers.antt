-- `planner::run_line` meets its contract. Assumes nothing.
use Rattle.std.proofs.Common.{refl}
use Rattle.std.proofs.lemmas.Int.{to_z-of_z}
use mir.Syntax.{w32}
use mir.Val.{SFits}
use Rattle.planner_lines.proofs.Script.{plan_opens}
use Rattle.planner.proofs.Lines.{run_word, run_file, run_asked, run_frequency, run_wavelength, run_tidied, run_looked, run_desk}
use borrow.Author.Rules.{rules}
use Rattle.commands.proofs.Begins.{beginning}
use Rattle.planner.proofs.Lines.{read_short, asked_is}
use Rattle.planner.proofs.run_line.Goals as goal

pub slice_bounds-run_read-count : goal.slice_bounds-run_read-count
slice_bounds-run_read-count c = search (rules, beginning)

pub slice_bounds-run_read-start : goal.slice_bounds-run_read-start
slice_bounds-run_read-start c = search (rules, beginning)

pub run_read-requires : goal.run_read-requires
run_read-requires c = search (rules, read_short)

pub slice_bounds-run_read_file-count : goal.slice_bounds-run_read_file-count
slice_bounds-run_read_file-count c = search (rules, beginning)

pub slice_bounds-run_read_file-start : goal.slice_bounds-run_read_file-start
slice_bounds-run_read_file-start c = search (rules, beginning)

pub run_question-requires : goal.run_question-requires
run_question-requires c = search (rules, asked_is)

pub returns-in-Read-clause-answer : goal.returns-in-Read-clause-answer
returns-in-Read-clause-answer c = run_word _ _ _ _ _ _ c.requires _ c.in-Read.ensures _ _ _ _ _ refl c.run_read.ensures

pub returns-in-Read-clause-demand3 : goal.returns-in-Read-clause-demand3
returns-in-Read-clause-demand3 c = plan_opens _ _ _ _ _ _ _ _ _ _ c.requires (returns-in-Read-clause-answer c)

pub returns-in-ReadFile-clause-answer : goal.returns-in-ReadFile-clause-answer
returns-in-ReadFile-clause-answer c = run_file _ _ _ _ _ _ c.requires _ c.in-ReadFile.ensures _ _ _ _ _ refl c.run_read_file.ensures

pub returns-in-ReadFile-clause-demand3 : goal.returns-in-ReadFile-clause-demand3
returns-in-ReadFile-clause-demand3 c = plan_opens _ _ _ _ _ _ _ _ _ _ c.requires (returns-in-ReadFile-clause-answer c)

pub returns-in-Ask-clause-answer : goal.returns-in-Ask-clause-answer
returns-in-Ask-clause-answer c = run_asked _ _ _ _ _ _ c.requires _ c.in-Ask.ensures _ _ _ refl c.run_question.ensures

pub returns-in-Ask-clause-demand3 : goal.returns-in-Ask-clause-demand3
returns-in-Ask-clause-demand3 c = plan_opens _ _ _ _ _ _ _ _ _ _ c.requires (returns-in-Ask-clause-answer c)

pub returns-in-Frequency-clause-answer : goal.returns-in-Frequency-clause-answer
returns-in-Frequency-clause-answer c =
    let fits : SFits w32 c.in-Frequency.start = search rules in
    let printed = c.answer_frequency-next.ensures in
    run_frequency _ _ _ _ _ _ c.requires _ c.in-Frequency.ensures c.in-Frequency.spacing c.in-Frequency.start c.in-Frequency.wavelength _ _ refl (rw (to_z-of_z w32 c.in-Frequency.start fits) at printed)

pub returns-in-Frequency-clause-demand3 : goal.returns-in-Frequency-clause-demand3
returns-in-Frequency-clause-demand3 c = plan_opens _ _ _ _ _ _ _ _ _ _ c.requires (returns-in-Frequency-clause-answer c)

pub returns-in-Wavelength-clause-answer : goal.returns-in-Wavelength-clause-answer
returns-in-Wavelength-clause-answer c =
    let fits : SFits w32 c.in-Wavelength.start = search rules in
    let printed = c.answer_wavelength-next.ensures in
    run_wavelength _ _ _ _ _ _ c.requires _ c.in-Wavelength.ensures c.in-Wavelength.spacing c.in-Wavelength.start c.in-Wavelength.frequency _ _ refl (rw (to_z-of_z w32 c.in-Wavelength.start fits) at printed)

pub returns-in-Wavelength-clause-demand3 : goal.returns-in-Wavelength-clause-demand3
returns-in-Wavelength-clause-demand3 c = plan_opens _ _ _ _ _ _ _ _ _ _ c.requires (returns-in-Wavelength-clause-answer c)

pub returns-in-Tidy-clause-answer : goal.returns-in-Tidy-clause-answer
returns-in-Tidy-clause-answer c = run_tidied _ _ _ _ _ _ c.requires _ c.in-Tidy.ensures _ _ _ _ refl c.run_tidy.ensures

pub returns-in-Tidy-clause-demand3 : goal.returns-in-Tidy-clause-demand3
returns-in-Tidy-clause-demand3 c = plan_opens _ _ _ _ _ _ _ _ _ _ c.requires (returns-in-Tidy-clause-answer c)

pub returns-in-From-clause-answer : goal.returns-in-From-clause-answer
returns-in-From-clause-answer c = run_looked _ _ _ _ _ _ c.requires _ c.in-From.ensures _ _ _ refl c.run_from.ensures

pub returns-in-From-clause-demand3 : goal.returns-in-From-clause-demand3
returns-in-From-clause-demand3 c = plan_opens _ _ _ _ _ _ _ _ _ _ c.requires (returns-in-From-clause-answer c)

pub returns-in-Desk-clause-answer : goal.returns-in-Desk-clause-answer
returns-in-Desk-clause-answer c = run_desk _ _ _ _ _ _ c.requires _ c.in-Desk.ensures _ _ _ _ refl c.run_line.ensures.answer

pub returns-in-Desk-clause-demand3 : goal.returns-in-Desk-clause-demand3
returns-in-Desk-clause-demand3 c = plan_opens _ _ _ _ _ _ _ _ _ _ c.requires (returns-in-Desk-clause-answer c)
