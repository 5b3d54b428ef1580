-- `row_numbers::used` meets its contract: what the places have is added up. Assumes nothing.
use mathlib.Core.List.{map}
use mathlib.Core.Path.{◌≡◌, ◌∙◌}
use native.Mathlib.Omega.{arith}
use borrow.Author.Rules.{rules}
use borrow.Author.Tests.{tests}
use Rattle.std.specs.Prelude.{sum}
use Rattle.std.proofs.lemmas.Iterator.{YieldsList-from_slice}
use Rattle.std.proofs.lemmas.Iterator.Adapters.{fits_from_length, at_most_from_yields_List}
use Rattle.std.proofs.lemmas.List.Sums.{sum-map}
use Rattle.basis.specs.Count.{tally}
use Rattle.basis.proofs.Arrays.{array_length}
use Rattle.slots.specs.Slot.{held}
use Rattle.channels.specs.declared.Channel.{Channel}
use Rattle.row_numbers.specs.Numbers.{node_at}
use Rattle.row_numbers.proofs.Using.{used_sum}
use Rattle.row_numbers.proofs.used.Goals as goal

pub sum-requires-clause-fits : goal.sum-requires-clause-fits
sum-requires-clause-fits c =
    fits_from_length _ _ 128 _ (at_most_from_yields_List (YieldsList-from_slice c.args.channels cc) (search (rules, array_length))) c.map.ensures.closure (omega arith) (λ x r q k. search (rules, tests))

pub returns : goal.returns
returns c =
    let f = λ (ch : Channel). tally (node_at c.args.end) c.args.node (held ch.slot) in
    let e : c.sum.result ≡ sum (map f c.args.channels) = search rules in
    e ∙ sum-map f c.args.channels ∙ used_sum (node_at c.args.end) c.args.node c.args.channels
