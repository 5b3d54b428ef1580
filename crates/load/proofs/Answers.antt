-- The answer of the load report and the buffer after it, case by case. Assumes nothing.
use Prim.Native.Nat.{ℕ, suc, ◌+◌, ◌*◌, ◌≤◌, ◌<◌}
use mathlib.Core.Path.{◌≡◌, refl}
use mathlib.Core.Bool.{true, false}
use mathlib.Core.List.{List, [], ◌++◌}
use lib.ListN.{length, drop, get_or}
use borrow.Author.Tests.{lt-ltb, le-ltb}
use Rattle.refusals.specs.declared.Refusal.TheVariants.{ShortBuffer, BrokenRule}
use Rattle.refusals.specs.Answer.{verdict_answer, answer_by}
use Rattle.ring.specs.Table.{meets_rules}
use Rattle.ring.specs.declared.RingTable.{RingTable}
use Rattle.lightpath.specs.declared.Direction.TheVariants.{Clockwise as clockwise, Counterclockwise as counterclockwise}
use Rattle.load.specs.Load.{link_load, loads}
use Rattle.load.specs.Report.{report_of, report_reasons, buffer_after}
use Rattle.load.proofs.Filled.{loads_pairs, pairs_at}
use Rattle.refusals.specs.Refusal.{Verdict}
use Rattle.std.specs.Prelude.{Ok, Err}

-- the answer v, the buffer after and the answer in numbers are those of the report
abbrev pub Reports : RingTable → List ℕ → Verdict → List ℕ → Type 0
Reports t out v after = (v ≡ report_of t (length out)) × ((after ≡ buffer_after t out) × (verdict_answer v ≡ answer_by (report_reasons t (length out)) []))

module _ (t : RingTable) (out : List ℕ) where
  -- the table breaks a ring rule
  pub report_broken : meets_rules t ≡ false → Reports t out (Err BrokenRule) out
  unfolding report_of
  report_broken h = rw h (refl, (refl, refl))

  -- the buffer is too short
  pub report_short : meets_rules t ≡ true → length out < 2 * t.nodes → Reports t out (Err ShortBuffer) out
  unfolding report_of
  report_short h l = rw (h, lt-ltb (length out) (2 * t.nodes) l) (refl, (refl, refl))

  -- neither: the loads are written
  pub report_full : (after : List ℕ) → meets_rules t ≡ true → 2 * t.nodes ≤ length out
      → after ≡ loads t.nodes t.channels ++ drop (2 * t.nodes) out → Reports t out (Ok tt) after
  unfolding report_of
  report_full after h l e = rw (h, le-ltb (length out) (2 * t.nodes) l) (refl, (e, refl))

  -- the buffer after it
  pub report_buffer : meets_rules t ≡ true → 2 * t.nodes ≤ length out → buffer_after t out ≡ loads t.nodes t.channels ++ drop (2 * t.nodes) out
  unfolding report_of
  report_buffer h l = rw (h, le-ltb (length out) (2 * t.nodes) l)

  -- in which the loads of link k + 1 stand at 2 × k and after it
  pub report_at : meets_rules t ≡ true → 2 * t.nodes ≤ length out → (k : ℕ) → k < t.nodes
      → (get_or (buffer_after t out) (2 * k) 0 ≡ link_load t.nodes t.channels clockwise (suc k))
      × (get_or (buffer_after t out) (2 * k + 1) 0 ≡ link_load t.nodes t.channels counterclockwise (suc k))
  report_at h l k i = rw (report_buffer h l, loads_pairs t.nodes t.nodes t.channels) (pairs_at _ _ t.nodes (drop (2 * t.nodes) out) k i)
