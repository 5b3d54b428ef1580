-- `load::report_valid` meets its contract: the lightpaths of the wavelengths below w are counted. Assumes nothing.
use Prim.Native.Nat.{◌+◌}
use mathlib.Core.Path.{refl, ap}
use native.Mathlib.Omega.{arith}
use Rattle.lightpath.specs.declared.Direction.TheVariants.{Clockwise as clockwise, Counterclockwise as counterclockwise}
use Rattle.ring.proofs.TableRules.{few_nodes}
use Rattle.load.proofs.Answers.{report_short, report_full}
use Rattle.lightpath.specs.Place.{place_of}
use Rattle.channels.specs.Channels.{at}
use Rattle.load.proofs.Counting.{reach_start, over_place, reach_room, reach_next, reach_all}
use Rattle.load.proofs.Running.{counted_walks, walk_written}
use Rattle.load.proofs.report_valid.Goals as goal

pub overflow_mul-from : goal.overflow_mul-from
overflow_mul-from c = omega (arith, few_nodes c.args.table c.requires)

pub loop-w-init : goal.loop-w-init
loop-w-init c =
    let e = c.none-clockwise.ensures in
    let f = c.none-counterclockwise.ensures in
    (reach_start _ _ _ _ _ e.starts e.stops refl, reach_start _ _ _ _ _ f.starts f.stops refl)

pub count_wavelength-last-requires-clause-valid : goal.count_wavelength-last-requires-clause-valid
count_wavelength-last-requires-clause-valid c = c.requires

pub count_wavelength-last-requires-clause-wavelength : goal.count_wavelength-last-requires-clause-wavelength
count_wavelength-last-requires-clause-wavelength c = c.loop-w-test.true

pub count_wavelength-last-requires-clause-room : goal.count_wavelength-last-requires-clause-room
count_wavelength-last-requires-clause-room c = let r = reach_room _ _ _ _ _ _ c.loop-w.invariant.0 c.loop-w-test.true in (r.0, r.1)

pub count_wavelength-counter_last-requires-clause-valid : goal.count_wavelength-counter_last-requires-clause-valid
count_wavelength-counter_last-requires-clause-valid c = c.requires

pub count_wavelength-counter_last-requires-clause-wavelength : goal.count_wavelength-counter_last-requires-clause-wavelength
count_wavelength-counter_last-requires-clause-wavelength c = c.loop-w-test.true

pub count_wavelength-counter_last-requires-clause-room : goal.count_wavelength-counter_last-requires-clause-room
count_wavelength-counter_last-requires-clause-room c = let r = reach_room _ _ _ _ _ _ c.loop-w.invariant.1 c.loop-w-test.true in (r.0, r.1)

pub overflow_add-last : goal.overflow_add-last
overflow_add-last c =
    omega (arith, (reach_room _ _ _ _ _ _ c.loop-w.invariant.0 c.loop-w-test.true).2, c.count_wavelength-last.ensures.last, over_place c.args.table.channels clockwise (at c.args.table.channels (place_of c.loop-w.w clockwise)))

pub overflow_add-counter_last : goal.overflow_add-counter_last
overflow_add-counter_last c =
    omega (arith, (reach_room _ _ _ _ _ _ c.loop-w.invariant.1 c.loop-w-test.true).2, c.count_wavelength-counter_last.ensures.last, over_place c.args.table.channels counterclockwise (at c.args.table.channels (place_of c.loop-w.w counterclockwise)))

pub loop-w-preserved : goal.loop-w-preserved
loop-w-preserved c =
    let e = c.count_wavelength-last.ensures in
    let f = c.count_wavelength-counter_last.ensures in (
      reach_next c.args.table c.requires clockwise _ c.loop-w-test.true _ refl _ _ _ c.loop-w.invariant.0 _ _ _ e.starts e.stops (ap (λ n. c.loop-w.last + n) e.last),
      reach_next c.args.table c.requires counterclockwise _ c.loop-w-test.true _ refl _ _ _ c.loop-w.invariant.1 _ _ _ f.starts f.stops (ap (λ n. c.loop-w.counter_last + n) f.last),
    )

pub walk-requires-clause-room : goal.walk-requires-clause-room
walk-requires-clause-room c = (few_nodes c.args.table c.requires, omega arith)

pub walk-requires-clause-clockwise : goal.walk-requires-clause-clockwise
walk-requires-clause-clockwise c =
    let r = reach_all _ _ _ _ _ _ c.loop-w.invariant.0 c.loop-w.auto.w-end c.loop-w-test.false in
    counted_walks c.args.table c.requires clockwise _ _ _ r.started r.stopped r.over

pub walk-requires-clause-counterclockwise : goal.walk-requires-clause-counterclockwise
walk-requires-clause-counterclockwise c =
    let r = reach_all _ _ _ _ _ _ c.loop-w.invariant.1 c.loop-w.auto.w-end c.loop-w-test.false in
    counted_walks c.args.table c.requires counterclockwise _ _ _ r.started r.stopped r.over

pub returns-then-out-from-clause-answer : goal.returns-then-out-from-clause-answer
returns-then-out-from-clause-answer c = (report_short c.args.table c.args.out.now c.requires (omega arith)).0

pub returns-then-out-from-clause-buffer : goal.returns-then-out-from-clause-buffer
returns-then-out-from-clause-buffer c = (report_short c.args.table c.args.out.now c.requires (omega arith)).1.0

pub returns-then-out-from-clause-numbers : goal.returns-then-out-from-clause-numbers
returns-then-out-from-clause-numbers c = (report_short c.args.table c.args.out.now c.requires (omega arith)).1.1

pub returns-clause-answer : goal.returns-clause-answer
returns-clause-answer c =
    let r = reach_all _ _ _ _ _ _ c.loop-w.invariant.0 c.loop-w.auto.w-end c.loop-w-test.false in
    let s = reach_all _ _ _ _ _ _ c.loop-w.invariant.1 c.loop-w.auto.w-end c.loop-w-test.false in
    (report_full c.args.table c.args.out.now c.walk.new.out c.requires (omega arith) (walk_written c.args.table c.requires _ _ _ _ _ _ c.walk.new.out _ r.started r.stopped r.over s.started s.stopped s.over c.walk.ensures)).0

pub returns-clause-buffer : goal.returns-clause-buffer
returns-clause-buffer c =
    let r = reach_all _ _ _ _ _ _ c.loop-w.invariant.0 c.loop-w.auto.w-end c.loop-w-test.false in
    let s = reach_all _ _ _ _ _ _ c.loop-w.invariant.1 c.loop-w.auto.w-end c.loop-w-test.false in
    (report_full c.args.table c.args.out.now c.walk.new.out c.requires (omega arith) (walk_written c.args.table c.requires _ _ _ _ _ _ c.walk.new.out _ r.started r.stopped r.over s.started s.stopped s.over c.walk.ensures)).1.0

pub returns-clause-numbers : goal.returns-clause-numbers
returns-clause-numbers c =
    let r = reach_all _ _ _ _ _ _ c.loop-w.invariant.0 c.loop-w.auto.w-end c.loop-w-test.false in
    let s = reach_all _ _ _ _ _ _ c.loop-w.invariant.1 c.loop-w.auto.w-end c.loop-w-test.false in
    (report_full c.args.table c.args.out.now c.walk.new.out c.requires (omega arith) (walk_written c.args.table c.requires _ _ _ _ _ _ c.walk.new.out _ r.started r.stopped r.over s.started s.stopped s.over c.walk.ensures)).1.1
