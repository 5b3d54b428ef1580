-- What a lookup gives is what the table has: each circuit that the node sends, once, with the place at which it stands, by rising number, and
-- no other. Assumes nothing.
use Prim.Native.Nat.{ℕ, ◌+◌, ◌<◌}
use mathlib.Core.Path.{◌≡◌, refl, ◌∙◌}
use mathlib.Core.Bool.{Bool, true, false}
use mathlib.Core.List.{List, [], ◌∷◌}
use native.Mathlib.Omega.{arith}
use lib.Dec.{eqb}
use lib.ListN.{length, take}
use lib.Seq.{take-append_seam}
use borrow.Author.Tests.{eqb-true, ne_eqb}
use Rattle.std.proofs.Common.{Option, Some, None, Result, Ok, Err}
use Rattle.refusals.specs.declared.Refusal.{Refusal}
use Rattle.basis.specs.Choice.{pick}
use Rattle.basis.specs.Count.{weigh}
use Rattle.basis.proofs.Bools.{all_map}
use Rattle.basis.proofs.Weigh.{keyed, none_weigh}
use Rattle.lightpath.specs.Circuit.{on_ring}
use Rattle.channels.specs.Channels.{Channels, circuits}
use Rattle.channels.specs.declared.Standing.{Standing}
use Rattle.ports_used.specs.PortsUsed.{sends}
use Rattle.rules.proofs.Rules.{Rules, rules_hold, limits_hold}
use Rattle.roster.specs.Roster.{entries, table_of, stands}
use Rattle.roster.specs.declared.Roster.{Roster}
use Rattle.roster.proofs.Standings.{entered, entries_weigh}
use Rattle.roster.proofs.Arranged.{stands_rules, table_typed}
use Rattle.rows.specs.Row.{row_of}
use Rattle.rows.proofs.Rows.{Numbered, row_sends, row_rises}
use Rattle.roster_rows.specs.Lookups.{sent_by, row_of_roster, numbered, circuit_of_roster}

-- a row weighs what the entries of its node do
row_weighs : (v : Standing → ℕ) (node : ℕ) (es : List Standing) → weigh v (row_of node es) ≡ weigh (keyed (λ m. m.circuit.source) node v) es
row_weighs v node [] = refl
row_weighs v node (m ∷ es) = go (eqb m.circuit.source node) (row_weighs v node es)
  where
    go : (o : Bool) → weigh v (row_of node es) ≡ weigh (keyed (λ m. m.circuit.source) node v) es
        → weigh v (pick o (m ∷ row_of node es) (row_of node es)) ≡ pick o (v m) 0 + weigh (keyed (λ m. m.circuit.source) node v) es
    go true e = omega arith
    go false e = omega arith

-- some entries are the circuits of a table that a node sends
pub record Exact (t : Channels) (node : ℕ) (ms : List Standing) : Type 0 where
  -- each of them once, with the place at which it stands, and no other
  pub each : (v : Standing → ℕ) → weigh v ms ≡ weigh (keyed (λ x. x.source) node (λ x. v (entered t x))) (circuits t)
  -- as many as the node sends
  pub counted : length ms ≡ sends node (circuits t)
  -- by rising number
  pub rising : Numbered ms

module _ (r : Roster) (s : stands r ≡ true) (node : ℕ) where
  rules : Rules (table_of r).nodes (table_of r).ports (table_of r).channels
  rules = rules_hold _ _ _ (stands_rules r s)

  sent_exact : Exact (table_of r).channels node (sent_by r node)
  sent_exact = record {
    each = λ v.
        row_weighs v node (entries (table_of r).channels)
        ∙ entries_weigh (table_of r).channels rules.numbers (limits_hold _ _ _ rules).long (keyed (λ m. m.circuit.source) node v);
    counted = row_sends node (table_of r).channels;
    rising = row_rises _ _ _ rules (table_typed r) node;
  }

  -- 02, E7: "Lookups by node should be short.": a row has each circuit of the table that the node sends, once, with its place, and no other;
  -- by rising number, as many as the node sends
  pub row_exact : on_ring (table_of r).nodes node ≡ true → Exact (table_of r).channels node (take (row_of_roster r node).count (row_of_roster r node).list)
  unfolding row_of_roster
  row_exact on = rw (s, on, take-append_seam (sent_by r node)) sent_exact

-- the circuit of a lookup by number, if there is one
abbrev pub given : Result (Option Standing) Refusal → List Standing
given (Ok (Some m)) = m ∷ []
given (Ok None) = []
given (Err x) = []

-- where numbers rise, it is all that have the number
numbered_weighs : (v : Standing → ℕ) (n : ℕ) (ms : List Standing) → Numbered ms → weigh v (given (Ok (numbered n ms))) ≡ weigh (keyed (λ m. m.circuit.number) n v) ms
numbered_weighs v n [] h = refl
numbered_weighs v n (m ∷ ms) h = go (eqb m.circuit.number n) refl (numbered_weighs v n ms h.1)
  where
    go : (o : Bool) → eqb m.circuit.number n ≡ o → weigh v (given (Ok (numbered n ms))) ≡ weigh (keyed (λ m. m.circuit.number) n v) ms
        → weigh v (given (Ok (pick o (Some m) (numbered n ms)))) ≡ pick o (v m) 0 + weigh (keyed (λ m. m.circuit.number) n v) ms
    go true e rest = omega (arith, none_weigh (keyed (λ m. m.circuit.number) n v) ms (all_map _ _ other ms h.0))
      where
        other : (x : Standing) → m.circuit.number < x.circuit.number → keyed (λ m. m.circuit.number) n v x ≡ 0
        other x l = rw (ne_eqb x.circuit.number n (λ k. absurd (omega (arith, eqb-true m.circuit.number n e))))
    go false e rest = omega arith

-- 02, E7: a lookup by number gives the circuit of the table with that source and number, with the place at which it stands, and none where the
-- table has none
pub circuit_exact : (r : Roster) → stands r ≡ true → (node n : ℕ) → on_ring (table_of r).nodes node ≡ true → (v : Standing → ℕ)
    → weigh v (given (circuit_of_roster r node n))
    ≡ weigh (keyed (λ x. x.source) node (keyed (λ x. x.number) n (λ x. v (entered (table_of r).channels x)))) (circuits (table_of r).channels)
unfolding circuit_of_roster
circuit_exact r s node n on v =
    let exact = sent_exact r s node in
    rw (s, on) (numbered_weighs v n (sent_by r node) exact.rising ∙ exact.each (keyed (λ m. m.circuit.number) n v))
