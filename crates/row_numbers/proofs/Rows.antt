-- The number of a row, by what the row shows. Assumes nothing.
use Prim.Native.Nat.{ℕ, ◌+◌, ◌-◌, ◌/◌, ◌%◌, ◌≤◌, ◌<◌}
use mathlib.Core.Path.{◌≡◌, ◌∙◌}
use mathlib.Core.Bool.{true}
use native.Mathlib.Omega.{arith}
use mathlib.Core.List.{List}
use native.Mathlib.Decide.{dec_lt}
use lib.ListN.{length, set, get_or, length-set}
use lib.Seq.{get_or-set_same, get_or-set_other}
use Rattle.limits.specs.Limits.{most_nodes}
use Rattle.lightpath.specs.Circuit.{next}
use Rattle.lightpath.specs.declared.Direction.TheVariants.{Clockwise as clockwise, Counterclockwise as counterclockwise}
use Rattle.channels.specs.Channels.{circuits}
use Rattle.ports.specs.Ports.{ports_at}
use Rattle.ports_used.specs.PortsUsed.{sends, receives}
use Rattle.ring.specs.Table.{meets_rules}
use Rattle.ring.specs.declared.RingTable.{RingTable}
use Rattle.ring.proofs.TableRules.{table_limits}
use Rattle.link_question.specs.Link.{link_of}
use Rattle.row_numbers.specs.declared.Row.{Row}
use Rattle.row_numbers.specs.declared.Row.TheVariants.{To, Place, Clockwise, Counterclockwise, Senders, Receivers}
use Rattle.row_numbers.specs.Numbers.{number_at, Numbered}
use Rattle.row_numbers.specs.Loaded.{load_at, Loaded}

module _ (t : RingTable) (row : Row) (i n : ℕ) where
  pub row_to : row ≡ To → n ≡ next t.nodes i → n ≡ number_at t row i
  row_to e k = rw e k

  pub row_place : (p : ℕ) → row ≡ Place p → n ≡ link_of t i (p / 2) (p % 2) → n ≡ number_at t row i
  row_place p e k = rw e k

  module _ (bytes : List ℕ) (q : Loaded t bytes) (low : 1 ≤ i) (high : i ≤ t.nodes) where
    pub row_clockwise : row ≡ Clockwise → n ≡ load_at bytes clockwise i → n ≡ number_at t row i
    row_clockwise e k = rw e (k ∙ q.each clockwise i low high)

    pub row_counter : row ≡ Counterclockwise → n ≡ load_at bytes counterclockwise i → n ≡ number_at t row i
    row_counter e k = rw e (k ∙ q.each counterclockwise i low high)

  pub row_senders : row ≡ Senders → n ≡ ports_at t.ports i - sends i (circuits t.channels) → n ≡ number_at t row i
  row_senders e k = rw e k

  pub row_receivers : row ≡ Receivers → n ≡ ports_at t.ports i - receives i (circuits t.channels) → n ≡ number_at t row i
  row_receivers e k = rw e k

-- the numbers one after another
module _ (t : RingTable) (row : Row) where
  pub numbered_none : (numbers : List ℕ) → length numbers ≡ most_nodes → Numbered t row 0 numbers
  numbered_none numbers w = record { width = w; each = λ i h. absurd (omega (arith, h)) }

  module _ (numbers : List ℕ) (i : ℕ) (q : Numbered t row i numbers) where
    pub numbered_room : meets_rules t ≡ true → i < t.nodes → i < most_nodes
    numbered_room meets h = omega (arith, (table_limits t meets).most)

    pub numbered_all : t.nodes ≤ i → Numbered t row t.nodes numbers
    numbered_all h = record { width = q.width; each = λ j k. q.each j (omega (arith, h, k)) }

    pub numbered_next : (n : ℕ) → i < length numbers → n ≡ number_at t row (i + 1) → Numbered t row (i + 1) (set numbers i n)
    numbered_next n h e = record { width = simp length-set q.width; each = λ j k. go j k (dec_lt j i) }
      where
        go : (j : ℕ) → j < i + 1 → Dec (j < i) → get_or (set numbers i n) j 0 ≡ number_at t row (j + 1)
        go j k (yes l) = rw (get_or-set_other numbers i j n 0 (λ m. omega (arith, l, m))) (q.each j l)
        go j k (no l) = let m : j ≡ i = omega (arith, k, l) in rw (m, get_or-set_same numbers i n 0 h) e

pub ruleset numbering = (numbered_none, numbered_room, numbered_next, numbered_all)

pub ruleset rows = (row_to, row_place, row_clockwise, row_counter, row_senders, row_receivers)
