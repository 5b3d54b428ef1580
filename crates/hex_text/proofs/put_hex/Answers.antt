-- `hex_text::put_hex` meets its contract: what is still to be written is the bytes from the position on. Assumes nothing.
use Rattle.std.proofs.Common.{rules}
use Rattle.hex_text.proofs.Writing.{hexing}
use Rattle.hex_text.proofs.put_hex.Goals as goal

pub put_pair-next-requires : goal.put_pair-next-requires
put_pair-next-requires c = search (rules, hexing)

pub loop-byte-preserved : goal.loop-byte-preserved
loop-byte-preserved c = search (rules, hexing)

pub returns : goal.returns
returns c = search (rules, hexing)
