-- `ports::spare_zero` meets its contract. Assumes nothing.
use mathlib.Core.Path.{◌≡◌, ◌∙◌}
use lib.Dec.{eqb}
use lib.ListN.{drop}
use borrow.Author.Rules.{rules}
use Rattle.std.proofs.lemmas.Iterator.{YieldsList-from_slice}
use Rattle.std.proofs.lemmas.Iterator.Search.{all_from_yields_List}
use Rattle.std.specs.Slice.Iter.{iter_rest}
use Rattle.ports.proofs.Counts.{last_counts, zeros_list}
use Rattle.ports.proofs.spare_zero.Goals as goal

pub returns : goal.returns
returns c =
    let rest : iter_rest c.iter.result ≡ drop c.args.nodes c.args.ports = last_counts _ _ _ _ _ (search rules) c.from.ensures c.iter.ensures.rest in
    all_from_yields_List (λ k. eqb k 0) _ _ _ c.all.ensures.ran (YieldsList-from_slice (drop c.args.nodes c.args.ports) rest) (λ x b q k. search rules)
    ∙ zeros_list (drop c.args.nodes c.args.ports)
