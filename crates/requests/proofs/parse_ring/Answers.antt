-- `requests::parse_ring` meets its contract. The loop's invariant: the ports read so far are those of the words up to the position. Assumes nothing.
use borrow.Author.Rules.{rules}
use Rattle.requests.specs.Line.{parse_ring}
use Rattle.words.proofs.Parse.{field_unread, none_given}
use Rattle.requests.proofs.Ports.{porting}
use Rattle.requests.proofs.parse_ring.Goals as goal

pub returns-in_err-nodes : goal.returns-in_err-nodes
unfolding parse_ring
returns-in_err-nodes c = search (rules, field_unread, none_given)

pub loop-next-init : goal.loop-next-init
loop-next-init c = search (rules, porting)

pub returns-in_err-port : goal.returns-in_err-port
returns-in_err-port c = search (rules, porting, none_given, c.in_err-port.ensures)

pub loop-next-preserved : goal.loop-next-preserved
loop-next-preserved c = search (rules, porting)

pub returns : goal.returns
returns c = search (rules, porting)
