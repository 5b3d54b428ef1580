-- `load::report_valid` meets its contract: the lightpaths of the wavelengths below w are counted. Assumes nothing.
use Rattle.lightpath.specs.declared.Direction.TheVariants.{Clockwise as clockwise, Counterclockwise as counterclockwise}
use Rattle.load.proofs.Counting.{Reached}
use Rattle.load.proofs.report_valid.Given as goal

abbrev pub invariant-loop-w : goal.invariant-loop-w
invariant-loop-w l =
    Reached l.table.channels clockwise l.w l.clockwise.starts l.clockwise.stops l.last
    × Reached l.table.channels counterclockwise l.w l.counterclockwise.starts l.counterclockwise.stops l.counter_last
