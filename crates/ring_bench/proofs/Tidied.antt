-- What the last tidying gave has room, and a form. Assumes nothing.
use Prim.Native.Nat.{◌≤◌}
use mathlib.Core.Path.{◌≡◌, refl}
use mathlib.Core.Bool.{true}
use native.Mathlib.Omega.{arith}
use Rattle.limits.specs.Limits.{tidy_records}
use Rattle.ring.specs.Table.{meets_rules}
use Rattle.ring.specs.declared.RingTable.{RingTable}
use Rattle.ring.specs.declared.TidyDecision.{TidyDecision}
use Rattle.ring.specs.Tidying.{tidying_by, decide_tidy_of}
use Rattle.ring.proofs.Rounds.{tidy_long, few_moves, tidy_rules}
use Rattle.std.specs.Prelude.{Ok}

module _ (t : RingTable) (d : TidyDecision) (meets : meets_rules t ≡ true) (e : d ≡ decide_tidy_of t tidy_records) where
  -- its moves are at most as many as the lent records
  pub moves_few : d.moves.count ≤ tidy_records
  moves_few = rw (e, ← tidy_long t tidy_records meets (tidying_by t (Ok tt)) (omega arith) refl) (few_moves t meets)

  -- its table meets the ring rules
  pub tidied_meets : meets_rules d.tidied.table ≡ true
  tidied_meets = rw e (tidy_rules t meets tidy_records)

pub ruleset last_tidied = (moves_few, tidied_meets)
