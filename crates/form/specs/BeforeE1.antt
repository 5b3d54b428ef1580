-- 01, "Saved form": reading before document 02's request E1, by the tests of then. Assumes nothing.
-- What the law that forms read before are read now means by "before".
use Rattle.std.specs.Prelude.{ℕ, List}
use Rattle.rules.specs.BeforeE1.{ring_rules_before_e1}
use Rattle.ring.specs.declared.Answered.{Answered}
use Rattle.form.specs.Reading.{Tests, unlit_above, read_by, answered_by}
use Rattle.form.specs.BeforeE2.{map_held_before_e2}

-- what a form was tested for
abbrev pub tests_before_e1 : Tests
tests_before_e1 = record { map = unlit_above; fields = map_held_before_e2; table = λ t. ring_rules_before_e1 t.nodes t.ports t.channels }

-- how a form was read
abbrev pub read_before_e1 : List ℕ → Answered
read_before_e1 s = answered_by (read_by tests_before_e1 s)
