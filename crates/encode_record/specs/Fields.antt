-- The bytes of a circuit in two parts. Assumes nothing. Serves proofs inside only.
use Rattle.std.specs.Prelude.{ℕ, List, [], ◌∷◌, ◌++◌}
use Rattle.lightpath.specs.declared.Circuit.{Circuit}
use Rattle.form.specs.Bytes.{high_first}
use Rattle.form.specs.Form.{optional_bytes, number_width, remark_width, account_width}

-- the fields that every circuit has: number, source, destination
unfoldable pub plain_fields : Circuit → List ℕ
plain_fields c = high_first number_width c.number ++ (c.source ∷ c.destination ∷ [])

-- those that one may be without: remark, account
unfoldable pub optional_fields : Circuit → List ℕ
optional_fields c = optional_bytes remark_width c.remark ++ optional_bytes account_width c.account
