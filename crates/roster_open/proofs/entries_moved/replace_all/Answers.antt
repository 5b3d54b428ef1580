-- `roster_open::replace_all` meets its contract. Assumes nothing.
use Rattle.std.proofs.Common.{rules, ◌∙◌, ap, min}
use Rattle.roster_open.proofs.Replaced.{replaces_next, replaces_listed}
use Rattle.roster_open.proofs.entries_moved.replace_all.Goals as goal

pub loop-moved-preserved : goal.loop-moved-preserved
loop-moved-preserved c = replaces_next _ _ _ _ _ _ _ _ (search rules) c.loop-moved.invariant c.replace.ensures

pub returns : goal.returns
returns c =
    replaces_listed c.args.moves c.min-most.result _ _ _ _ _ (c.min-most.ensures ∙ ap (λ n. min n 3) c.from.ensures) c.loop-moved-test.false c.loop-moved.invariant
