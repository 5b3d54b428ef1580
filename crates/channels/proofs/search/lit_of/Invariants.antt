-- `channels::search::lit_of` meets its contract. The loop's invariant: the words hold the lit places from `place` on. Assumes nothing.
use Rattle.lit_words.proofs.Built.{Built}
use Rattle.channels.specs.Channels.{lit_at}
use Rattle.channels.proofs.search.lit_of.Given as goal

abbrev pub invariant-loop-place : goal.invariant-loop-place
invariant-loop-place l = Built (lit_at l.channels) l.place l.lit
