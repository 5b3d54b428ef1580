-- `text::put_number` meets its contract: the digits before the last are written by a call with n / 10, and n is the measure. Assumes nothing.
use borrow.Author.Rules.{rules}
use Rattle.text.proofs.Decimal.{decimals}
use Rattle.text.proofs.+put_number.Goals as goal

pub put_byte-requires : goal.put_byte-requires
put_byte-requires t c = search (rules, decimals)

pub returns-then-n-lt10 : goal.returns-then-n-lt10
returns-then-n-lt10 t c = search (rules, decimals)

pub put_number-next-requires : goal.put_number-next-requires
put_number-next-requires t c = search (rules, decimals)

pub put_byte-requires-2 : goal.put_byte-requires-2
put_byte-requires-2 t c = search (rules, decimals)

pub returns : goal.returns
returns t c = search (rules, decimals)
