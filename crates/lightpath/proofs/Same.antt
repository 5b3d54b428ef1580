-- A circuit is its fields: the one law that names them all. Assumes nothing.
use Prim.Native.Nat.{ℕ}
use mathlib.Core.Path.{◌≡◌}
use Rattle.lightpath.specs.declared.Circuit.{Circuit}

-- circuits that no weight tells apart are one
pub same_circuit : (a b : Circuit) → ((w : Circuit → ℕ) → w a ≡ w b) → a ≡ b
same_circuit a b h =
    λ i. record {
      number = h (λ c. c.number) i;
      source = h (λ c. c.source) i;
      destination = h (λ c. c.destination) i;
      remark = h (λ c. c.remark) i;
      account = h (λ c. c.account) i;
    }
