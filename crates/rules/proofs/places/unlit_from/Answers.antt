-- `rules::places::unlit_from` meets its contract. Assumes nothing.
use mathlib.Core.Path.{◌∙◌}
use Rattle.std.proofs.Common.{rules}
use Rattle.rules.proofs.Unlit.{unlit_all}
use Rattle.rules.proofs.places.unlit_from.Goals as goal

pub returns : goal.returns
returns c = c.none_lit.ensures ∙ unlit_all c.args.limit c.args.channels (search rules)
