-- The lines of the nodes, printed one after another. Assumes nothing.
use Prim.Native.Nat.{ℕ, suc, ◌+◌, ◌-◌, ◌*◌, ◌^◌, ◌≤◌, ◌<◌}
use mathlib.Core.Path.{◌≡◌, refl}
use mathlib.Core.Bool.{true}
use mathlib.Core.List.{List, ◌++◌}
use native.Mathlib.Numerals.{add-one}
use native.Mathlib.Omega.{arith}
use lib.ListN.{length}
use Rattle.basis.specs.Count.{tally}
use Rattle.basis.proofs.Tallied.{tally_most}
use Rattle.limits.specs.Limits.{most_nodes}
use Rattle.channels.specs.Channels.{circuits}
use Rattle.ports.specs.Ports.{ports_at}
use Rattle.ports_used.specs.PortsUsed.{sends, receives}
use Rattle.ring.specs.Table.{meets_rules}
use Rattle.ring.specs.declared.RingTable.{RingTable}
use Rattle.ring.proofs.TableRules.{few_nodes}
use Rattle.roster.proofs.Building.{room_for_all}
use Rattle.buffer.specs.Put.{Put, Printed}
use Rattle.buffer.proofs.Put.{put_none, put_put, put_length}
use Rattle.text.specs.Bytes.{bytes}
use Rattle.print.specs.Answers.{piece}
use Rattle.print.specs.Filled.{filled, filled_room}
use Rattle.row_numbers.specs.Numbers.{node_at}
use Rattle.row_numbers.specs.declared.End.{End}
use Rattle.node_lines.specs.Lines.{node_line, node_lines, nodes_text, node_room, node_lines_room, nodes_room}

module _ (t : RingTable) (meets : meets_rules t ≡ true) where
  -- the circuits that have a node at an end are few
  pub used_small : (end : End) (node r : ℕ) → r ≡ tally (node_at end) node (circuits t.channels) → r < 2 ^ 32
  used_small end node r e = omega (arith, tally_most (node_at end) node (circuits t.channels), room_for_all t meets)

  -- the line of a node
  pub node_line_lem : (l l' : List ℕ) (at k node all s r : ℕ) → all ≡ ports_at t.ports node → s ≡ sends node (circuits t.channels) → r ≡ receives node (circuits t.channels)
      → Printed node_room l at (filled (bytes "node # ports # sends # receives #\n") node all s r) l' k → Printed node_room l at (node_line t.ports t.channels node) l' k
  unfolding filled piece node_line
  node_line_lem l l' at k node all s r a b c p = rw (← a, ← b, ← c) p

  -- the first line and those of the nodes
  pub nodes_put : (l l1 l2 : List ℕ) (at i j : ℕ) → Printed (filled_room (bytes "nodes #\n")) l at (filled (bytes "nodes #\n") t.nodes 0 0 0) l1 i
      → Printed node_lines_room l1 i (node_lines t.ports t.channels t.nodes 1) l2 j → Printed nodes_room l at (nodes_text t.nodes t.ports t.channels) l2 j
  unfolding filled piece nodes_text
  nodes_put l l1 l2 at i j p q = record { put = put_put p.put q.put; short = omega (arith, p.short, q.short) }

-- the nodes from node i on are still to be printed: whatever prints them at this position has printed all
pub record Naming (t : RingTable) (l0 : List ℕ) (start : ℕ) (l : List ℕ) (next i : ℕ) : Type 0 where
  pub rest : (l' : List ℕ) (e : ℕ) → Put l next (node_lines t.ports t.channels (t.nodes + 1 - i) i) l' e → Put l0 start (node_lines t.ports t.channels t.nodes 1) l' e
  pub short : next + node_room ≤ start + node_room * i
  pub few : t.nodes ≤ most_nodes
  pub space : start + node_lines_room ≤ length l0
  pub long : length l ≡ length l0

pub name_none : (t : RingTable) (l : List ℕ) (start : ℕ) → start + node_lines_room ≤ length l → meets_rules t ≡ true → Naming t l start l start 1
name_none t l start h meets =
    let z : t.nodes + 1 - 1 ≡ t.nodes = omega arith in
    record { rest = λ l' e q. rw z at q; short = omega arith; few = few_nodes t meets; space = h; long = refl }

-- where there is no node at all
pub name_empty : (t : RingTable) (l0 : List ℕ) (start : ℕ) (l : List ℕ) (next : ℕ) → Naming t l0 start l next 1 → t.nodes < 1 → Printed node_lines_room l0 start (node_lines t.ports t.channels t.nodes 1) l next
name_empty t l0 start l next q h =
    let e : t.nodes + 1 - 1 ≡ 0 = omega arith in
    record { put = q.rest l next (rw e put_none); short = omega (arith, q.short) }

module _ (t : RingTable) (l0 : List ℕ) (start : ℕ) (l : List ℕ) (next i : ℕ) (q : Naming t l0 start l next i) (h : i ≤ t.nodes) where
  pub name_room_lem : next + node_room ≤ length l
  name_room_lem = omega (arith, q.short, q.few, q.space, q.long)

  apart : node_lines t.ports t.channels (t.nodes + 1 - i) i ≡ node_line t.ports t.channels i ++ node_lines t.ports t.channels (t.nodes + 1 - (i + 1)) (i + 1)
  apart = let e : t.nodes + 1 - i ≡ suc (t.nodes + 1 - (i + 1)) = omega arith in rw (e, add-one i)

  module _ (l1 : List ℕ) (j : ℕ) (p : Printed node_room l next (node_line t.ports t.channels i) l1 j) where
    pub name_next : Naming t l0 start l1 j (i + 1)
    name_next =
        record {
          rest = λ l' e r. q.rest l' e (rw apart (put_put p.put r));
          short = omega (arith, q.short, p.short);
          few = q.few;
          space = q.space;
          long = omega (arith, put_length p.put, q.long);
        }

    pub name_last : t.nodes ≤ i → Printed node_lines_room l0 start (node_lines t.ports t.channels t.nodes 1) l1 j
    name_last k =
        let e : t.nodes + 1 - (i + 1) ≡ 0 = omega arith in
        record { put = name_next.rest l1 j (rw e put_none); short = omega (arith, name_next.short, q.few) }

pub ruleset naming = (name_none, name_empty, name_room_lem, name_next, name_last)

pub ruleset named = (used_small, node_line_lem)
