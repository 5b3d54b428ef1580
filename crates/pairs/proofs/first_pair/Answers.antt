-- `pairs::first_pair` meets its contract. Assumes nothing.
use Prim.Native.Nat.{◌+◌, ◌-◌, ◌≤◌, ◌<◌}
use lib.ListN.{length, length-drop}
use lib.Seq.{length-take-le}
use Rattle.std.proofs.Common.{rules, arith}
use Rattle.pairs.proofs.Seek.{row_leave, pair_miss, pair_hit, pairs_end}
use Rattle.pairs.proofs.first_pair.Goals as goal

pub loop-b-preserved : goal.loop-b-preserved
loop-b-preserved c =
    let within : c.loop-b.b-index < length c.args.candidates.now - (c.pairs.i + 1) = search (rules, length-take-le, length-drop) in
    (omega arith, pair_miss _ _ _ _ _ c.loop-b.invariant.1 within c.adjacent.ensures c.if-adjacent.false)

pub pairs-preserved : goal.pairs-preserved
pairs-preserved c =
    let past : length c.args.candidates.now - (c.pairs.i + 1) ≤ c.loop-b.b-index = search (rules, length-take-le, length-drop) in
    (omega arith, row_leave _ _ _ _ c.loop-b.invariant.1 past)

pub returns-after-pairs : goal.returns-after-pairs
returns-after-pairs c = pairs_end _ _ _ _ c.pairs.invariant.1 c.pairs-test.false c.requires.1

pub returns-then-adjacent : goal.returns-then-adjacent
returns-then-adjacent c =
    let within : c.loop-b.b-index < length c.args.candidates.now - (c.pairs.i + 1) = search (rules, length-take-le, length-drop) in
    pair_hit _ _ _ _ _ c.loop-b.invariant.1 within c.adjacent.ensures c.if-adjacent.true
