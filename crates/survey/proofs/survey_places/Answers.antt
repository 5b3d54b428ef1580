-- `survey::survey_places` meets its contract. Assumes nothing.
use mathlib.Core.Path.{◌∙◌}
use Rattle.std.proofs.Common.{rules}
use Rattle.survey.proofs.Seen.{seen_joined, seen_none, seen}
use Rattle.survey.proofs.survey_places.Goals.{then-seen-limit, else-seen-limit}
use Rattle.survey.proofs.survey_places.Goals as goal

pub loop-place-init : goal.loop-place-init
loop-place-init c = search (rules, seen)

pub with_place-seen-requires : goal.with_place-seen-requires
with_place-seen-requires c = search (rules, seen)

pub loop-place-preserved : goal.loop-place-preserved
loop-place-preserved c = search (rules, seen)

pub returns : goal.returns
returns c =
    elim c.if-seen-limit.branch [
      | then-seen-limit w ↦
          seen_joined _ _ _ _ (search (rules, seen)) c.requires.1 _ _ c.loop-place.invariant c.loop-place-test.false _ w.if-seen-limit.true
          (w.partner-is ∙ w.first-partner.ensures)
      | else-seen-limit w ↦
          seen_none _ _ _ _ (search (rules, seen)) c.requires.1 _ _ c.loop-place.invariant c.loop-place-test.false _ w.if-seen-limit.false
          w.partner-is
    ]
