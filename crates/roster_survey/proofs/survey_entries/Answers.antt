-- `roster_survey::survey_entries` meets its contract. Assumes nothing.
use Rattle.std.proofs.Common.{rules}
use Rattle.roster_survey.proofs.Surveyed.{survey_count, surveyed}
use Rattle.roster_survey.proofs.survey_entries.Goals as goal

pub row_of-row-requires : goal.row_of-row-requires
row_of-row-requires c = let held = survey_count _ _ _ _ _ _ _ c.from-count.ensures c.requires in search (rules, surveyed)

pub pass_entries-seen-requires : goal.pass_entries-seen-requires
pass_entries-seen-requires c = let held = survey_count _ _ _ _ _ _ _ c.from-count.ensures c.requires in search (rules, surveyed)

pub find_join-nearest-requires : goal.find_join-nearest-requires
find_join-nearest-requires c = let held = survey_count _ _ _ _ _ _ _ c.from-count.ensures c.requires in search (rules, surveyed)

pub overflow_sub-result : goal.overflow_sub-result
overflow_sub-result c = let held = survey_count _ _ _ _ _ _ _ c.from-count.ensures c.requires in search (rules, surveyed)

pub standing-requires : goal.standing-requires
standing-requires c = let held = survey_count _ _ _ _ _ _ _ c.from-count.ensures c.requires in search (rules, surveyed)

pub returns : goal.returns
returns c = let held = survey_count _ _ _ _ _ _ _ c.from-count.ensures c.requires in search (rules, surveyed)
