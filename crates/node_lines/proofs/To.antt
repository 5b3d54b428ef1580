-- The answer to `to NODE`, from its words and the entries. Assumes nothing.
use Prim.Native.Nat.{ℕ, ◌≤◌}
use mathlib.Core.Path.{◌≡◌, sym}
use mathlib.Core.Bool.{Bool, true, false}
use mathlib.Core.List.{List}
use native.Mathlib.Omega.{arith}
use lib.Dec.{eqb}
use lib.ListN.{length, take}
use lib.Seq.{length-take-le}
use borrow.Author.Tests.{not-true, not-false}
use Rattle.basis.specs.Choice.{bit}
use Rattle.basis.specs.Count.{distinct}
use Rattle.basis.proofs.Tallied.{tally_most}
use Rattle.basis.proofs.Weigh.{most_distinct}
use Rattle.limits.specs.Limits.{most_ports, most_circuits}
use Rattle.lightpath.specs.Circuit.{on_ring}
use Rattle.channels.specs.Channels.{Channels, circuits}
use Rattle.refusals.specs.Refusal.{number_of}
use Rattle.refusals.specs.declared.Refusal.TheVariants.{OffRing}
use Rattle.ring.specs.Table.{meets_rules}
use Rattle.ring.specs.declared.RingTable.{RingTable}
use Rattle.ring.proofs.TableRules.{table_rules}
use Rattle.roster.specs.Roster.{entries, entries_in}
use Rattle.roster.specs.Listed.{Lists}
use Rattle.roster.proofs.Standings.{entries_count, entries_circuits}
use Rattle.roster.proofs.Arranged.{entries_back}
use Rattle.roster.proofs.Listing.{lists_keys, lists_rests, lists_room}
use Rattle.roster.proofs.Building.{blank_lists, room_for_all}
use Rattle.rows.proofs.Held.{receives_most}
use Rattle.buffer.specs.Put.{Printed}
use Rattle.text.specs.Bytes.{bytes}
use Rattle.print.specs.Answers.{piece}
use Rattle.print.specs.Filled.{filled, filled_room}
use Rattle.row_lines.specs.declared.Listed.TheVariants.{To}
use Rattle.row_lines.specs.Lines.{row_text, from_room}
use Rattle.node_lines.specs.Lines.{to_text}
use Rattle.node_lines.specs.Arrivals.{arrivals_in}
use Rattle.node_lines.proofs.Arrived.{arrived_entries, arrived_count}
use Rattle.node_lines.proofs.Rising.{arrived_once}

-- a node off the ring
pub to_refused : (N : ℕ) (t : Channels) (node : ℕ) (on : Bool) (l l' : List ℕ) (at e : ℕ) → on ≡ on_ring N node → on ≡ false
    → Printed (filled_room (bytes "to refused #\n")) l at (filled (bytes "to refused #\n") (number_of OffRing) 0 0 0) l' e
    → Printed from_room l at (to_text N t node) l' e
unfolding filled piece to_text
to_refused N t node on l l' at e is off p = record { put = rw (← is, off) p.put; short = omega (arith, p.short) }

-- a node of the ring, and the circuits to it
module _ (t : RingTable) (meets : meets_rules t ≡ true) (node : ℕ) (a : Channels) (e : a ≡ arrivals_in node t.channels) where
  counted : length (circuits a) ≤ length (circuits t.channels)
  counted = rw e (omega (arith, arrived_count node t.channels, tally_most (λ c. c.destination) node (circuits t.channels)))

  pub to_room : length (circuits a) ≤ most_circuits
  to_room = omega (arith, counted, room_for_all t meets)

  pub to_apart : distinct (λ c. c.number) (circuits a) ≡ true
  to_apart =
      most_distinct (λ c. c.number) (circuits a) (λ k. omega (
        arith,
        entries_circuits a (λ c. bit (eqb c.number k)),
        rw (arrived_entries node t.channels, ← e) at (arrived_once node t.nodes t.ports t.channels (table_rules t meets) k),
      ))

  module _ (keys rests : List ℕ) (count : ℕ) (h : Lists (entries a) keys rests count) where
    pub to_keys : count ≤ length keys
    to_keys = omega (arith, h.counted, h.most, lists_room (entries a) keys rests count h)

    pub to_rests : count ≤ length rests
    to_rests = omega (arith, h.counted, h.most, lists_room (entries a) keys rests count h)

    pub to_lent : count ≡ length (take count keys)
    to_lent = sym (length-take-le count keys to_keys)

    pub to_lent_rests : count ≡ length (take count rests)
    to_lent_rests = sym (length-take-le count rests to_rests)

    pub to_same : length (take count rests) ≡ length (take count keys)
    to_same = omega (arith, to_lent, to_lent_rests)

    module _ (on : Bool) (is : on ≡ on_ring t.nodes node) (there : on ≡ true) where
      pub to_few : length (take count keys) ≤ most_ports
      to_few =
          omega (
            arith,
            to_lent,
            h.counted,
            entries_count a,
            rw (← e) at (arrived_count node t.channels),
            receives_most t.nodes t.ports t.channels (table_rules t meets) node (rw is at there),
          )

      pub to_row : (l l' : List ℕ) (at k : ℕ) → Printed from_room l at (row_text To node (entries_in (take count keys) (take count rests))) l' k
          → Printed from_room l at (to_text t.nodes t.channels node) l' k
      unfolding to_text
      to_row l l' at k p =
          rw (← is, there, arrived_entries node t.channels, ← e)
          (rw (lists_keys (entries a) keys rests count h, lists_rests (entries a) keys rests count h, entries_back (entries a) h.written) at p)

pub ruleset received = (blank_lists, to_refused, to_room, to_apart, to_keys, to_rests, to_lent, to_lent_rests, to_same, to_few, to_row, not-true, not-false)
