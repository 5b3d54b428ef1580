-- `ending::ends_valid` meets its contract. Assumes nothing.
use Rattle.ending.specs.Ending.{requested}
use Rattle.ending.proofs.Judging.{refused_named, named_granted, granted_named}
use Rattle.ending.proofs.ends_valid.Goals as goal

pub ends_named-requires : goal.ends_named-requires
ends_named-requires c = (
  c.requires,
  named_granted c.args.table (requested c.args.number c.args.source c.args.destination) c.requires c.nodes_verdict.result
      c.nodes_verdict.ensures c.in-Ok.is,
)

pub returns-in-Ok-clause-answer : goal.returns-in-Ok-clause-answer
returns-in-Ok-clause-answer c =
    (granted_named c.args.table (requested c.args.number c.args.source c.args.destination) c.requires c.nodes_verdict.result
    c.nodes_verdict.ensures c.in-Ok.is c.ends_named.result c.ends_named.ensures).0

pub returns-in-Ok-clause-numbers : goal.returns-in-Ok-clause-numbers
returns-in-Ok-clause-numbers c =
    (granted_named c.args.table (requested c.args.number c.args.source c.args.destination) c.requires c.nodes_verdict.result
    c.nodes_verdict.ensures c.in-Ok.is c.ends_named.result c.ends_named.ensures).1

pub returns-in-Err-clause-answer : goal.returns-in-Err-clause-answer
returns-in-Err-clause-answer c =
    (refused_named c.args.table (requested c.args.number c.args.source c.args.destination) c.requires c.nodes_verdict.result
    c.nodes_verdict.ensures c.in-Err.refusal c.in-Err.is).0

pub returns-in-Err-clause-numbers : goal.returns-in-Err-clause-numbers
returns-in-Err-clause-numbers c =
    (refused_named c.args.table (requested c.args.number c.args.source c.args.destination) c.requires c.nodes_verdict.result
    c.nodes_verdict.ensures c.in-Err.refusal c.in-Err.is).1
