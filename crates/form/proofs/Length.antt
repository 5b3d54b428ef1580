-- How long a form is at most. Assumes nothing.
use Prim.Native.Nat.{ℕ, ◌+◌, ◌*◌, ◌≤◌}
use mathlib.Core.Path.{◌≡◌}
use mathlib.Core.Bool.{Bool, true, false}
use mathlib.Core.List.{List, [], ◌∷◌, ◌++◌}
use native.Mathlib.Omega.{arith}
use lib.ListN.{length, length-append}
use lib.Seq.{length-take-le}
use Rattle.basis.specs.Choice.{pick}
use Rattle.lightpath.specs.declared.Circuit.{Circuit}
use Rattle.slots.specs.declared.Slot.{Slot}
use Rattle.slots.specs.declared.Slot.TheVariants.{Unlit as unlit, Alone as alone, Shared as shared}
use Rattle.slots.specs.Slot.{held}
use Rattle.channels.specs.Channels.{Channels, circuits, lit_at}
use Rattle.rules.proofs.Counting.{circuits_most}
use Rattle.ring.specs.Table.{meets_rules}
use Rattle.ring.specs.declared.RingTable.{RingTable}
use Rattle.ring.proofs.TableRules.{table_rules, table_limits}
use Rattle.form.specs.Bytes.{high_first}
use Rattle.form.specs.Form.{map_bytes, present, optional_bytes, number_width, remark_width, account_width, map_width, longest_form, circuit_bytes, record_bytes, records_bytes, ports_bytes, form_of}
use Rattle.form.specs.Most.{circuit_most}
use Rattle.form.proofs.MapBytes.{map_long}
use Rattle.form.proofs.Numbers.{high_long}

-- an optional field takes no byte, or as many as it is wide
optional_most : (width v : ℕ) → length (optional_bytes width v) ≤ width
unfolding optional_bytes
optional_most width v = go (present v)
  where
    go : (there : Bool) → length (pick there (high_first width v) []) ≤ width
    go true = omega (arith, high_long width v)
    go false = omega arith

-- so that a circuit takes at most the bytes of all its fields
circuit_most_lem : (c : Circuit) → length (circuit_bytes c) ≤ circuit_most
unfolding circuit_bytes
circuit_most_lem c =
    let number : List ℕ = high_first number_width c.number in
    let remark : List ℕ = optional_bytes remark_width c.remark in
    let account : List ℕ = optional_bytes account_width c.account in
    omega (
      arith,
      length-append number (c.source ∷ c.destination ∷ (remark ++ account)),
      length-append remark account,
      high_long number_width c.number,
      optional_most remark_width c.remark,
      optional_most account_width c.account,
    )

-- a record one more than its circuits
record_most : (s : Slot) → length (record_bytes s) ≤ 1 + circuit_most * length (held s)
unfolding record_bytes
record_most unlit = omega arith
record_most (alone a) = omega (arith, circuit_most_lem a)
record_most (shared a b) = omega (arith, circuit_most_lem a, circuit_most_lem b, length-append (circuit_bytes a) (circuit_bytes b))

-- so the records take at most a byte for each place and the most for each circuit
records_most : (chs : Channels) → length (records_bytes chs) ≤ length chs + circuit_most * length (circuits chs)
unfolding records_bytes
records_most [] = omega arith
records_most (ch ∷ chs) =
    omega (arith, record_most ch.slot, records_most chs, length-append (record_bytes ch.slot) (records_bytes chs), length-append (held ch.slot) (circuits chs))

-- a form is N, a port count for each node, 16 bytes of map and the records
pub form_length : (t : RingTable) → t.nodes ≤ length t.ports → length (form_of t) ≡ 17 + t.nodes + length (records_bytes t.channels)
unfolding form_of
form_length t h =
    let map : List ℕ = map_bytes (lit_at t.channels) map_width 0 in
    omega (
      arith,
      length-take-le t.nodes t.ports h,
      length-append (ports_bytes t) (map ++ records_bytes t.channels),
      length-append map (records_bytes t.channels),
      map_long (lit_at t.channels) map_width 0,
    )

-- 02, E2: "The longest form is 2,513 bytes.": no form of a table that meets the ring rules is longer
pub form_most : (t : RingTable) → meets_rules t ≡ true → length (form_of t) ≤ longest_form
form_most t m =
    let l = table_limits t m in
    omega (
      arith,
      form_length t (omega (arith, l.most, l.fields)),
      l.most,
      l.long,
      records_most t.channels,
      circuits_most t.nodes t.ports t.channels (table_rules t m),
    )
