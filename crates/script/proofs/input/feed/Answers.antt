-- `script::input::feed` meets its contract. The loop's invariant: of the chunk the first i bytes are taken in, and what they print stands in the
-- lent bytes up to `at`. Assumes nothing.
use borrow.Author.Rules.{rules}
use Rattle.script.proofs.Feeding.{feeding, feed_all, feed_line, feed_hold, feed_drop}
use Rattle.script.proofs.input.feed.Goals as goal
use Rattle.script.proofs.input.feed.Goals.{then-byte-eq10, else-byte-eq10+then-fits, else-byte-eq10+else-fits}

pub loop-byte-init : goal.loop-byte-init
loop-byte-init c = search (rules, feeding)

pub slice_bounds-run_line-end : goal.slice_bounds-run_line-end
slice_bounds-run_line-end c = search (rules, feeding)

pub run_line-ran-requires : goal.run_line-ran-requires
run_line-ran-requires c = search (rules, feeding)

pub loop-byte-preserved : goal.loop-byte-preserved
loop-byte-preserved c = elim c.if-byte-eq10.branch [
  | then-byte-eq10 w ↦
      rw (w.out-is, w.keys-is, w.rests-is, w.desk-is, w.line-is, w.held-is, w.at-is)
      (feed_line _ _ _ _ _ _ _ _ _ _ _ c.loop-byte.invariant c.loop-byte-test.true _ _ _ _ w.if-byte-eq10.true w.run_line-ran.ensures.answer)
  | else-byte-eq10+then-fits w ↦
      rw (w.out-is, w.keys-is, w.rests-is, w.desk-is, w.line-is, w.held-is, w.at-is)
      (feed_hold _ _ _ _ _ _ _ _ _ _ _ c.loop-byte.invariant c.loop-byte-test.true w.if-byte-eq10.false w.if-fits.true)
  | else-byte-eq10+else-fits w ↦
      rw (w.out-is, w.keys-is, w.rests-is, w.desk-is, w.line-is, w.held-is, w.at-is)
      (feed_drop _ _ _ _ _ _ _ _ _ _ _ c.loop-byte.invariant c.loop-byte-test.true w.if-byte-eq10.false w.if-fits.false)
]

pub shape_of-out : goal.shape_of-out
shape_of-out c = search (rules, feeding)

pub returns : goal.returns
returns c = search (rules, feed_all)
