-- The loads out of the bytes of a load report. Assumes nothing.
use Prim.Native.Nat.{ℕ, suc, ◌+◌, ◌-◌, ◌*◌, ◌≤◌}
use mathlib.Core.Path.{◌≡◌}
use mathlib.Core.Bool.{true}
use mathlib.Core.List.{List}
use native.Mathlib.Omega.{arith}
use lib.ListN.{length, get_or, length-append}
use Rattle.limits.specs.Limits.{most_nodes}
use Rattle.lightpath.specs.declared.Direction.{Direction}
use Rattle.lightpath.specs.declared.Direction.TheVariants.{Clockwise as clockwise, Counterclockwise as counterclockwise}
use Rattle.ring.specs.Table.{meets_rules}
use Rattle.ring.specs.declared.RingTable.{RingTable}
use Rattle.ring.proofs.TableRules.{few_nodes}
use Rattle.load.specs.Load.{link_load}
use Rattle.load.specs.Report.{buffer_after}
use Rattle.load.proofs.Filled.{loads_length}
use Rattle.load.proofs.Answers.{report_buffer, report_at}
use Rattle.row_numbers.specs.Loaded.{load_at, Loaded}

-- the byte of a link, by the direction
module _ (bytes : List ℕ) (d : Direction) (l n : ℕ) where
  pub load_clockwise : d ≡ clockwise → n ≡ get_or bytes (2 * (l - 1)) 0 → n ≡ load_at bytes d l
  load_clockwise e k = rw e k

  pub load_counter : d ≡ counterclockwise → n ≡ get_or bytes (2 * (l - 1) + 1) 0 → n ≡ load_at bytes d l
  load_counter e k = rw e k

pub ruleset loading = (load_clockwise, load_counter)

-- the bytes of a report of a table that meets the ring rules, with room for the loads of every ring, are the loads of its links
module _ (t : RingTable) (meets : meets_rules t ≡ true) (out : List ℕ) (width : length out ≡ 2 * most_nodes) where
  within : 2 * t.nodes ≤ length out
  within = omega (arith, width, few_nodes t meets)

  room : 2 * t.nodes ≤ length (buffer_after t out)
  room = rw (report_buffer t out meets within, length-append) (omega (arith, loads_length t.nodes t.channels t.nodes))

  each : (d : Direction) (l : ℕ) → 1 ≤ l → l ≤ t.nodes → load_at (buffer_after t out) d l ≡ link_load t.nodes t.channels d l
  each clockwise l low high =
      let e : suc (l - 1) ≡ l = omega arith in rw e at (report_at t out meets within (l - 1) (omega arith)).0
  each counterclockwise l low high =
      let e : suc (l - 1) ≡ l = omega arith in rw e at (report_at t out meets within (l - 1) (omega arith)).1

  pub report_loaded : (bytes : List ℕ) → bytes ≡ buffer_after t out → Loaded t bytes
  report_loaded bytes e = rw e (record { room = room; each = each })
