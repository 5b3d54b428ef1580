-- `columns::digits` meets its contract. Assumes nothing.
use Rattle.columns.proofs.DigitCount.{digits_counted, few_digits}
use Rattle.columns.proofs.digits.Goals as goal

pub returns : goal.returns
returns c =
    let of = c.checked_ilog10.ensures in
    (digits_counted _ _ of.none of.power_le of.next_power_gt _ c.unwrap_or.ensures, few_digits _ of.bound _ c.unwrap_or.ensures)
