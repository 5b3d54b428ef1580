-- `load::ends::EndCounts::count_wavelength` meets its contract. Assumes nothing.
use mathlib.Core.Path.{◌∙◌}
use Rattle.load.proofs.Counting.{ends_inside}
use Rattle.load.proofs.ends.EndCounts.count_wavelength.Goals as goal

pub count_place-requires-clause-inside : goal.count_place-requires-clause-inside
count_place-requires-clause-inside c =
    ends_inside c.args.table.now c.requires.valid _ _ c.requires.wavelength _ (c.from.ensures ∙ c.place-place.ensures)

pub returns-clause-starts : goal.returns-clause-starts
returns-clause-starts c = rw (c.from.ensures ∙ c.place-place.ensures) at c.count_place.ensures.starts

pub returns-clause-stops : goal.returns-clause-stops
returns-clause-stops c = rw (c.from.ensures ∙ c.place-place.ensures) at c.count_place.ensures.stops

pub returns-clause-last : goal.returns-clause-last
returns-clause-last c = rw (c.from.ensures ∙ c.place-place.ensures) at c.count_place.ensures.last
