-- `decode::read_ring` meets its contract. Assumes nothing.
use borrow.Author.Rules.{rules}
use Rattle.std.proofs.lemmas.Result.{err_from_is_err_and}
use Rattle.decode.proofs.Rings.{ring_rules, ports_refused, ports_granted}
use Rattle.decode.proofs.read_ring.Goals as goal

pub returns-then-form-lt1 : goal.returns-then-form-lt1
returns-then-form-lt1 c = search (rules, ring_rules)

pub returns-then-nodes-lt-LEAST_NODES : goal.returns-then-nodes-lt-LEAST_NODES
returns-then-nodes-lt-LEAST_NODES c = search (rules, ring_rules)

pub returns-then-nodes-gt-MOST_NODES : goal.returns-then-nodes-gt-MOST_NODES
returns-then-nodes-gt-MOST_NODES c = search (rules, ring_rules)

pub returns-then-form-end : goal.returns-then-form-end
returns-then-form-end c = search (rules, ring_rules)

pub returns-in_err-made : goal.returns-in_err-made
returns-in_err-made c =
    let p = err_from_is_err_and c.from_residual.result c.from_residual.ensures.1 in
    rw (p.1, p.2) (ports_refused _ _ c.if-form-lt1.false c.if-nodes-lt-LEAST_NODES.false c.if-nodes-gt-MOST_NODES.false c.if-form-end.false c.make-made.ensures.answer _ c.in_err-made.was)

pub returns : goal.returns
returns c =
    ports_granted _ _ c.if-form-lt1.false c.if-nodes-lt-LEAST_NODES.false c.if-nodes-gt-MOST_NODES.false c.if-form-end.false c.make-made.ensures.answer c.in_ok-made.was
