-- `channels::search::lit_of` meets its contract. The loop's invariant: the words hold the lit places from `place` on. Assumes nothing.
use borrow.Author.Rules.{rules}
use Rattle.lit_words.proofs.Built.{built}
use Rattle.channels.proofs.search.lit_of.Goals as goal

pub loop-place-init : goal.loop-place-init
loop-place-init c = search (rules, built)

pub with-lit-requires : goal.with-lit-requires
with-lit-requires c = search (rules, built)

pub loop-place-preserved-then-is_lit : goal.loop-place-preserved-then-is_lit
loop-place-preserved-then-is_lit c = search (rules, built)
