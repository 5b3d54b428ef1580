-- `roster_survey::pass_entries` meets its contract. Assumes nothing.
use Rattle.std.proofs.Common.{rules}
use Rattle.entries.proofs.Both.{both_turn, both_end}
use Rattle.roster_survey.proofs.Passing.{passing}
use Rattle.roster_survey.proofs.pass_entries.Goals as goal

pub loop-key-init : goal.loop-key-init
loop-key-init c = search (rules, passing)

pub with_entry-seen-requires : goal.with_entry-seen-requires
with_entry-seen-requires c =
    let turn = both_turn c.args.keys.now c.args.rests.now c.args.count c.requires.keyed c.requires.rested c.loop-key.yielded c.into_iter-key-iterator.result c.loop-key.key-iterator c.next.new.self c.next.result (search rules) (search rules) c.loop-key.yielded_by (c.in-Some.key, c.in-Some.rest) c.in-Some.is c.next.ensures.steps in
    rw turn.rest_at (search (rules, passing))

pub loop-key-preserved : goal.loop-key-preserved
loop-key-preserved c =
    let turn = both_turn c.args.keys.now c.args.rests.now c.args.count c.requires.keyed c.requires.rested c.loop-key.yielded c.into_iter-key-iterator.result c.loop-key.key-iterator c.next.new.self c.next.result (search rules) (search rules) c.loop-key.yielded_by (c.in-Some.key, c.in-Some.rest) c.in-Some.is c.next.ensures.steps in
    let seen = rw (turn.key_at, turn.rest_at) at c.with_entry-seen.ensures in
    search (rules, passing)

pub returns : goal.returns
returns c =
    let all = both_end c.args.keys.now c.args.rests.now c.args.count c.requires.keyed c.requires.rested c.loop-key.yielded c.into_iter-key-iterator.result c.loop-key.key-iterator c.next.new.self c.next.result (search rules) (search rules) c.loop-key.yielded_by c.in-None.is c.next.ensures.steps in
    search (rules, passing)
