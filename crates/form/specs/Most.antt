-- How many bytes a circuit takes at most. Assumes nothing. Serves proofs inside only.
use Rattle.std.specs.Prelude.{ℕ, ◌+◌}
use Rattle.form.specs.Form.{number_width, remark_width, account_width}

abbrev pub circuit_most : ℕ
circuit_most = number_width + 2 + remark_width + account_width
