-- `rules::ring_rules` meets its contract. Assumes nothing.
use mathlib.Core.Path.{◌≡◌}
use mathlib.Core.Bool.{◌&&◌}
use lib.ListN.{length}
use Rattle.std.proofs.Common.{rules}
use Rattle.basis.specs.Count.{distinct}
use Rattle.basis.proofs.Branch.{branch}
use Rattle.limits.specs.Limits.{place_count, port_fields}
use Rattle.ports.specs.Ports.{limit_of, limits}
use Rattle.channels.specs.Channels.{circuits}
use Rattle.rules.specs.Rules.{unlit_from, ports_hold}
use Rattle.rules.specs.EachPlace.{places_hold}
use Rattle.rules.proofs.Decided.{go_on, stop}
use Rattle.rules.proofs.ring_rules.Goals.{After-places_hold, then-limits_hold, else-limits_hold, then-unlit_from, else-unlit_from, then-places_hold, else-places_hold}
use Rattle.rules.proofs.ring_rules.Goals as goal

pub returns-then-circuits_hold : goal.returns-then-circuits_hold
returns-then-circuits_hold c =
    let two : c.if-limits_hold.value ≡ (limits c.args.nodes c.args.ports && unlit_from (limit_of c.args.ports) c.args.channels) =
    elim c.if-limits_hold.branch [ then-limits_hold w ↦ search (rules, branch) | else-limits_hold w ↦ search (rules, branch) ] in
    let three : c.if-unlit_from.value ≡ (c.if-limits_hold.value && places_hold c.args.nodes c.args.channels) =
    elim c.if-unlit_from.branch [ then-unlit_from w ↦ search (rules, branch) | else-unlit_from w ↦ search (rules, branch) ] in
    let four : c.if-places_hold.value ≡ (c.if-unlit_from.value && (distinct (λ c. c.number) (circuits c.args.channels) && ports_hold 1 c.args.ports (circuits c.args.channels))) =
    elim c.if-places_hold.branch [ then-places_hold w ↦ search (rules, branch) | else-places_hold w ↦ search (rules, branch) ] in
    let fields : length c.args.ports ≡ port_fields = search rules in
    let places : length c.args.channels ≡ place_count = search rules in
    go_on c.args.nodes c.args.ports c.args.channels _ _ fields places (cc) c.if-circuits_hold.true c.spare_zero.ensures

pub returns-else-circuits_hold : goal.returns-else-circuits_hold
returns-else-circuits_hold c =
    let two : c.if-limits_hold.value ≡ (limits c.args.nodes c.args.ports && unlit_from (limit_of c.args.ports) c.args.channels) =
    elim c.if-limits_hold.branch [ then-limits_hold w ↦ search (rules, branch) | else-limits_hold w ↦ search (rules, branch) ] in
    let three : c.if-unlit_from.value ≡ (c.if-limits_hold.value && places_hold c.args.nodes c.args.channels) =
    elim c.if-unlit_from.branch [ then-unlit_from w ↦ search (rules, branch) | else-unlit_from w ↦ search (rules, branch) ] in
    let four : c.if-places_hold.value ≡ (c.if-unlit_from.value && (distinct (λ c. c.number) (circuits c.args.channels) && ports_hold 1 c.args.ports (circuits c.args.channels))) =
    elim c.if-places_hold.branch [ then-places_hold w ↦ search (rules, branch) | else-places_hold w ↦ search (rules, branch) ] in
    let fields : length c.args.ports ≡ port_fields = search rules in
    let places : length c.args.channels ≡ place_count = search rules in
    stop c.args.nodes c.args.ports c.args.channels c.if-places_hold.value _ fields places (cc) c.if-circuits_hold.false c.if-circuits_hold.false
