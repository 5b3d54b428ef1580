-- `hex_text::put_pair` meets its contract. Assumes nothing.
use Rattle.std.proofs.Common.{rules}
use Rattle.hex_text.proofs.Writing.{pairing}
use Rattle.hex_text.proofs.put_pair.Goals as goal

pub put_byte-next-requires : goal.put_byte-next-requires
put_byte-next-requires c = search (rules, pairing)

pub put_byte-requires : goal.put_byte-requires
put_byte-requires c = search (rules, pairing)

pub returns : goal.returns
returns c = search (rules, pairing)
