-- `inventory::put_read` meets its contract. Assumes nothing.
use borrow.Author.Rules.{rules}
use Rattle.inventory.proofs.Words.{lines}
use Rattle.inventory.proofs.put_read.Goals as goal

pub enum_told-1 : goal.enum_told-1
enum_told-1 c = search (rules, lines)

pub put_filled-requires : goal.put_filled-requires
put_filled-requires c = search (rules, lines)

pub enum_known-verdict : goal.enum_known-verdict
enum_known-verdict c = search (rules, lines)

pub put_refusal-requires : goal.put_refusal-requires
put_refusal-requires c = search (rules, lines)

pub shape_of-out-in-Ok : goal.shape_of-out-in-Ok
shape_of-out-in-Ok c = search (rules, lines)

pub returns-in-Ok : goal.returns-in-Ok
returns-in-Ok c = search (rules, lines)

pub shape_of-out-in-Err : goal.shape_of-out-in-Err
shape_of-out-in-Err c = search (rules, lines)

pub returns-in-Err : goal.returns-in-Err
returns-in-Err c = search (rules, lines)
