-- `load::walk` meets its contract: the loads of the links up to `link` are written, and those of the last are kept. Assumes nothing.
use mathlib.Core.Path.{◌≡◌}
use Rattle.load.specs.Walk.{running}
use Rattle.load.proofs.Filled.{Filled}
use Rattle.load.proofs.walk.Given as goal

abbrev pub invariant-loop-link : goal.invariant-loop-link
invariant-loop-link l =
    Filled (λ k. running l.clockwise.starts l.clockwise.stops l.clockwise.last k) (λ k. running l.counterclockwise.starts l.counterclockwise.stops l.counterclockwise.last k) l.nodes l.initial.out l.link l.out
    × (l.load ≡ running l.clockwise.starts l.clockwise.stops l.clockwise.last l.link)
    × (l.other ≡ running l.counterclockwise.starts l.counterclockwise.stops l.counterclockwise.last l.link)
