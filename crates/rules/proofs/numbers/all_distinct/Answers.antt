-- `rules::numbers::all_distinct` meets its contract. Assumes nothing.
use Prim.Native.Nat.{◌+◌, ◌-◌}
use lib.ListN.{length, drop}
use lib.Seq.{length-take-le}
use Rattle.std.proofs.Common.{rules, arith, length-drop}
use Rattle.rules.proofs.Distinct.{compared_start, compared_next, told_next, apart}
use Rattle.rules.proofs.numbers.all_distinct.Goals as goal

pub loop-i-init : goal.loop-i-init
loop-i-init c = search (rules, apart)

pub loop-other-init : goal.loop-other-init
loop-other-init c = compared_start _ _

pub loop-other-preserved : goal.loop-other-preserved
loop-other-preserved c =
    rw c.from-alike.ensures
    (compared_next _ _ _ _ c.loop-other.invariant
    (omega (arith, length-take-le (length c.args.numbers.now - (c.loop-i.i + 1)) (drop (c.loop-i.i + 1) c.args.numbers.now) (omega (arith, length-drop (c.loop-i.i + 1) c.args.numbers.now)))))

pub loop-i-preserved : goal.loop-i-preserved
loop-i-preserved c =
    told_next _ _ _ _ c.loop-i.invariant c.loop-other.invariant (omega arith)
    (omega (arith, length-take-le (length c.args.numbers.now - (c.loop-i.i + 1)) (drop (c.loop-i.i + 1) c.args.numbers.now) (omega (arith, length-drop (c.loop-i.i + 1) c.args.numbers.now))))

pub returns-then-alike-gt0 : goal.returns-then-alike-gt0
returns-then-alike-gt0 c = search (rules, apart)

pub returns : goal.returns
returns c = search (rules, apart)
