-- `ending::ends_named` meets its contract. Assumes nothing.
use borrow.Author.Rules.{rules}
use Rattle.ring.proofs.Placing.{places}
use Rattle.ending.proofs.Judging.{named_served, named_live, named_lacks}
use Rattle.ending.proofs.ends_named.Goals as goal

pub survey_places-seen-requires : goal.survey_places-seen-requires
survey_places-seen-requires c = search (rules, places)

pub returns-in-Ok : goal.returns-in-Ok
returns-in-Ok c =
    named_served c.args.table c.args.request c.place_limit-limit.result c.survey_places-seen.result c.survey_places-seen.ensures c.used_verdict.result
    c.used_verdict.ensures c.in-Ok.is

pub returns-then-seen-gt0 : goal.returns-then-seen-gt0
returns-then-seen-gt0 c =
    named_live c.args.table c.args.request c.place_limit-limit.result c.survey_places-seen.result c.survey_places-seen.ensures c.used_verdict.result
    c.used_verdict.ensures c.in-Err.refusal c.in-Err.is c.if-seen-gt0.true

pub returns-else-seen-gt0 : goal.returns-else-seen-gt0
returns-else-seen-gt0 c =
    named_lacks c.args.table c.args.request c.place_limit-limit.result c.survey_places-seen.result c.survey_places-seen.ensures c.used_verdict.result
    c.used_verdict.ensures c.in-Err.refusal c.in-Err.is c.requires.0 c.requires.1 c.if-seen-gt0.false c.port_free-sender.result
    c.port_free-receiver.result c.port_free-sender.ensures c.port_free-receiver.ensures c.lowest_helping.result c.lowest_helping.ensures
