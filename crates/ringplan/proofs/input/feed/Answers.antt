-- `ringplan::input::feed` meets its contract. The loop's invariant: of the chunk the bytes from the start position up to i are taken in, and what they
-- print stands in the lent bytes up to `at`. Assumes nothing.
use borrow.Author.Rules.{rules}
use Rattle.ringplan.proofs.Feeding.{feed_line, feed_hold, feed_drop, feeding}
use Rattle.ringplan.proofs.input.feed.Goals as goal
use Rattle.ringplan.proofs.input.feed.Goals.{then-count-lt-HELD_ROOM, else-count-lt-HELD_ROOM}

pub loop-i-init : goal.loop-i-init
loop-i-init c = search (rules, feeding)

pub slice_bounds-run_line-end-then-byte-eq10 : goal.slice_bounds-run_line-end-then-byte-eq10
slice_bounds-run_line-end-then-byte-eq10 c = search (rules, feeding)

pub run_line-ran-requires : goal.run_line-ran-requires
run_line-ran-requires c = search (rules, feeding)

pub overflow_sub-out : goal.overflow_sub-out
overflow_sub-out c = search (rules, feeding)

pub returns-then-byte-eq10 : goal.returns-then-byte-eq10
returns-then-byte-eq10 c = search (rules, feeding)

pub bounds-line-count : goal.bounds-line-count
bounds-line-count c = search (rules, feeding)

pub returns : goal.returns
returns c = search (rules, feeding)

pub loop-i-preserved-then-has_room : goal.loop-i-preserved-then-has_room
loop-i-preserved-then-has_room c =
    feed_line _ _ _ _ _ _ _ _ _ _ _ _ _ _ _ c.loop-i.invariant (search rules) _ _ _ _ (search rules) c.run_line-ran.ensures.answer _ c.has_room.ensures (search rules)

pub loop-i-preserved : goal.loop-i-preserved
loop-i-preserved c =
    elim c.if-count-lt-HELD_ROOM.branch [
      | then-count-lt-HELD_ROOM w ↦
          rw (w.count-is, w.line-is) (feed_hold _ _ _ _ _ _ _ _ _ _ _ _ _ _ _ c.loop-i.invariant c.loop-i-test.true c.if-byte-eq10.false w.if-count-lt-HELD_ROOM.true)
      | else-count-lt-HELD_ROOM w ↦
          rw (w.count-is, w.line-is) (feed_drop _ _ _ _ _ _ _ _ _ _ _ _ _ _ _ c.loop-i.invariant c.loop-i-test.true c.if-byte-eq10.false w.if-count-lt-HELD_ROOM.false)
    ]
