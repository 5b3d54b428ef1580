-- `ports::sum_of` meets its contract. Assumes nothing.
use mathlib.Core.Path.{◌≡◌, ◌∙◌}
use native.Mathlib.Omega.{arith}
use borrow.Author.Rules.{rules}
use Rattle.std.specs.List.{sum_by}
use Rattle.ports.proofs.Counts.{total_sum, total_bytes}
use Rattle.ports.proofs.sum_of.Goals as goal

pub returns : goal.returns
returns c =
    let e : c.sum.result ≡ sum_by (λ k. k) c.args.counts.now = search rules in
    (e ∙ total_sum c.args.counts.now, omega (arith, total_sum c.args.counts.now, total_bytes c.args.counts.now c.type_inv.counts))
