-- `ringplan::end_input` meets its contract. Assumes nothing.
use borrow.Author.Rules.{rules}
use Rattle.ringplan.proofs.Turns.{finishing}
use Rattle.ringplan.proofs.end_input.Goals as goal

pub finish-wrote-requires : goal.finish-wrote-requires
finish-wrote-requires c = search (rules, finishing)

pub shape_of-keys : goal.shape_of-keys
shape_of-keys c = search (rules, finishing)

pub shape_of-rests : goal.shape_of-rests
shape_of-rests c = search (rules, finishing)

pub shape_of-out : goal.shape_of-out
shape_of-out c = search (rules, finishing)

pub returns : goal.returns
returns c = search (rules, finishing)
