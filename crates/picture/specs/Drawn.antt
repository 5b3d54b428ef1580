-- A table to be drawn. Assumes nothing. What the parts of a picture ask for.
use Rattle.std.specs.Prelude.{ℕ, ◌≤◌, ◌≡◌, true}
use Rattle.ring.specs.Table.{meets_rules}
use Rattle.ring.specs.declared.RingTable.{RingTable}
use Rattle.text.specs.Decimal.{most_digits}

-- a table that meets the rules, to be drawn in columns of so many bytes
pub record Drawn (t : RingTable) (width : ℕ) : Type 0 where
  pub rules : meets_rules t ≡ true
  pub narrow : width ≤ most_digits
