-- `planner::answer` meets its contract. Assumes nothing.
use borrow.Author.Rules.{rules}
use Rattle.commands.proofs.Begins.{beginning}
use Rattle.planner.proofs.Lines.{answers}
use Rattle.planner.proofs.answer.Goals as goal

pub slice_bounds-answer_write_file-count : goal.slice_bounds-answer_write_file-count
slice_bounds-answer_write_file-count c = search (rules, beginning)

pub slice_bounds-answer_write_file-start : goal.slice_bounds-answer_write_file-start
slice_bounds-answer_write_file-start c = search (rules, beginning)

pub returns-in-Write : goal.returns-in-Write
returns-in-Write c = search (rules, answers)

pub returns-in-WriteFile : goal.returns-in-WriteFile
returns-in-WriteFile c = search (rules, answers)

pub returns-in-Load : goal.returns-in-Load
returns-in-Load c = search (rules, answers)

pub returns-in-Link : goal.returns-in-Link
returns-in-Link c = search (rules, answers)

pub returns-in-Circuits : goal.returns-in-Circuits
returns-in-Circuits c = search (rules, answers)

pub returns-in-Show : goal.returns-in-Show
returns-in-Show c = search (rules, answers)

pub returns-in-To : goal.returns-in-To
returns-in-To c = search (rules, answers)

pub returns-in-Nodes : goal.returns-in-Nodes
returns-in-Nodes c = search (rules, answers)
