-- `rounds::unlit::lowest_unlit` meets its contract. Assumes nothing.
use Prim.Native.Nat.{◌<◌}
use mathlib.Core.Path.{◌≡◌}
use lib.ListN.{length}
use lib.Seq.{get_or-take, length-take-le}
use Rattle.std.proofs.Common.{rules, arith}
use Rattle.basis.proofs.Arrays.{array_length}
use Rattle.basis.proofs.Scan.{scan_next, scan_hit, scan_end, scan}
use Rattle.limits.specs.Limits.{place_count}
use Rattle.channels.specs.Channels.{unlit_channel}
use Rattle.rounds.proofs.unlit.lowest_unlit.Goals.{In-loop-place}
use Rattle.rounds.proofs.unlit.lowest_unlit.Goals as goal

pub loop-place-init : goal.loop-place-init
loop-place-init c = search (rules, scan)

pub loop-place-preserved : goal.loop-place-preserved
loop-place-preserved c =
    let long : length c.args.channels ≡ place_count = search (rules, array_length) in
    let within : c.loop-place.place < c.args.limit = omega (arith, length-take-le c.args.limit c.args.channels (omega arith)) in
    scan_next _ _ _ _ c.loop-place.invariant (rw (get_or-take c.args.limit c.args.channels c.loop-place.place unlit_channel within) at c.unlit_in.ensures) c.if-unlit_in.false

pub returns-then-unlit_in : goal.returns-then-unlit_in
returns-then-unlit_in c =
    let long : length c.args.channels ≡ place_count = search (rules, array_length) in
    let within : c.loop-place.place < c.args.limit = omega (arith, length-take-le c.args.limit c.args.channels (omega arith)) in
    scan_hit _ _ _ _ c.loop-place.invariant (rw (get_or-take c.args.limit c.args.channels c.loop-place.place unlit_channel within) at c.unlit_in.ensures) c.if-unlit_in.true within

pub returns : goal.returns
returns c =
    let long : length c.args.channels ≡ place_count = search (rules, array_length) in
    scan_end _ _ _ c.loop-place.invariant (omega (arith, length-take-le c.args.limit c.args.channels (omega arith)))
