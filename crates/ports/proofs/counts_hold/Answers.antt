-- `ports::counts_hold` meets its contract. Assumes nothing.
use mathlib.Core.Path.{◌∙◌}
use lib.Dec.{leb}
use borrow.Author.Rules.{rules}
use Rattle.std.proofs.lemmas.Iterator.{YieldsList-from_slice}
use Rattle.std.proofs.lemmas.Iterator.Search.{all_from_yields_List}
use Rattle.limits.specs.Limits.{most_ports}
use Rattle.ports.proofs.Counts.{each_list}
use Rattle.ports.proofs.counts_hold.Goals as goal

pub returns : goal.returns
returns c =
    all_from_yields_List (λ k. leb k most_ports) _ _ _ c.all.ensures.ran (YieldsList-from_slice c.args.ports cc) (λ x b q k. search rules)
    ∙ each_list most_ports c.args.ports
