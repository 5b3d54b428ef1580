-- `print::put_filled` meets its contract. The loop's invariant: what is still to be printed is the words from the byte on, with the numbers
-- left. Assumes nothing.
use borrow.Author.Rules.{rules}
use Rattle.print.proofs.Filling.{filling, fill_number, fill_byte}
use Rattle.print.proofs.put_filled.Goals as goal
use Rattle.print.proofs.put_filled.Goals.{then-byte-eq35, else-byte-eq35}

pub loop-byte-init : goal.loop-byte-init
loop-byte-init c = search (rules, filling)

pub put_number-next-requires : goal.put_number-next-requires
put_number-next-requires c = search (rules, filling)

pub put_byte-next-requires : goal.put_byte-next-requires
put_byte-next-requires c = search (rules, filling)

pub loop-byte-preserved : goal.loop-byte-preserved
loop-byte-preserved c = elim c.if-byte-eq35.branch [
  | then-byte-eq35 w ↦
      rw (w.out-is, w.a-is, w.b-is, w.c-is, w.next-is)
      (fill_number _ _ _ _ _ _ _ _ _ _ _ c.loop-byte.invariant c.loop-byte-test.true w.if-byte-eq35.true _ _ w.put_number-next.ensures)
  | else-byte-eq35 w ↦
      rw (w.out-is, w.a-is, w.b-is, w.c-is, w.next-is)
      (fill_byte _ _ _ _ _ _ _ _ _ _ _ c.loop-byte.invariant c.loop-byte-test.true w.if-byte-eq35.false _ _ w.put_byte-next.ensures)
]

pub shape_of-out : goal.shape_of-out
shape_of-out c = search (rules, filling)

pub returns : goal.returns
returns c = search (rules, filling)
