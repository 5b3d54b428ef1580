-- `lit_words::Lit::none_lit_from` meets its contract. Assumes nothing.
use Prim.Native.Nat.{◌-◌}
use mathlib.Core.Path.{refl, ◌∙◌}
use mathlib.Core.Bool.{not}
use borrow.Author.Rules.{rules}
use Rattle.std.proofs.lemmas.Iterator.{YieldsList-from_range}
use Rattle.std.proofs.lemmas.Iterator.Search.{all_from_yields_List}
use Rattle.limits.specs.Limits.{place_count}
use Rattle.lit_words.specs.Lit.{lit_bit}
use Rattle.lit_words.proofs.NoneLit.{none_in_range}
use Rattle.lit_words.proofs.Lit.none_lit_from.Goals as goal

pub returns : goal.returns
returns c =
    all_from_yields_List (λ p. not (lit_bit c.args.self p)) _ _ _ c.all.ensures.ran
    (YieldsList-from_range c.args.limit place_count (place_count - c.args.limit) refl refl) (λ x b q k. search rules)
    ∙ none_in_range c.args.limit (lit_bit c.args.self)
