-- `hex_text::byte` meets its contract. Assumes nothing.
use Rattle.std.proofs.Common.{rules, inl, inr}
use Rattle.hex_text.proofs.Reading.{bytes, byte_high, byte_low}
use Rattle.hex_text.proofs.byte.Goals as goal

pub returns-then-high-ge-NO_DIGIT : goal.returns-then-high-ge-NO_DIGIT
returns-then-high-ge-NO_DIGIT c = elim c.then-high-ge-NO_DIGIT.either [
  | inl h ↦ byte_high _ _ _ _ c.value-high.ensures.0 c.value-low.ensures.0 h
  | inr h ↦ byte_low _ _ _ _ c.value-high.ensures.0 c.value-low.ensures.0 h.0 h.1
]

pub returns : goal.returns
returns c = search (rules, bytes)
