-- The form of a table: written and read back, and read and written back. Assumes nothing.
use Prim.Native.Nat.{ℕ, ◌-◌, ◌≤◌, ◌<◌}
use mathlib.Core.Path.{◌≡◌, refl, sym, ◌∙◌}
use mathlib.Core.Bool.{Bool, true, ◌&&◌}
use mathlib.Core.List.{List, [], ◌∷◌, ◌++◌, append-nil}
use native.Mathlib.Nat.{zero-add}
use native.Mathlib.Omega.{arith}
use lib.Dec.{leb}
use lib.ListN.{length, take, drop, replicate}
use lib.Seq.{take_at, length-take-le}
use borrow.Author.Tests.{le-leb, leb-true, eqb-true}
use Rattle.basis.specs.Count.{total, All}
use Rattle.basis.proofs.Bools.{and_left, and_right, all_right}
use Rattle.limits.specs.Limits.{place_count}
use Rattle.lit_words.proofs.NoneLit.{none_lit_same}
use Rattle.channels.specs.Channels.{Channels, lit_at}
use Rattle.ports.specs.Ports.{limit_of, each_at_most}
use Rattle.ports.proofs.Counts.{each_take}
use Rattle.refusals.specs.declared.Refusal.TheVariants.{NodeCount, PortCount, PortSum, BadField, BrokenForm}
use Rattle.ring.specs.Table.{meets_rules, fresh_table, with_channels}
use Rattle.ring.specs.declared.RingTable.{RingTable}
use Rattle.ring.proofs.TableRules.{table_rules, table_limits}
use Rattle.form.specs.Form.{field_bits, field_map, map_bytes, map_width, records_bytes, ports_bytes, form_of}
use Rattle.form.specs.Reader.{got, byte, bytes, end}
use Rattle.form.specs.Reading.{read_ports, map_bit, read_map_by, read_record_by, read_records_by, read_records, checked_by, Tests, read_by, unlit_above, tests_now, read_table}
use Rattle.form.proofs.MapBytes.{map_long, map_says, map_is}
use Rattle.form.proofs.Ports.{total_nodes, nodes_zeros}
use Rattle.form.proofs.Trip.{bytes_back, all_hold, records_back}
use Rattle.form.proofs.Fields.{Holds, then_holds, then_any, unless_holds, AreBytes, Wrote, byte_is, bytes_are, bytes_wrote}
use Rattle.form.proofs.Unique.{RecordsWrote, records_wrote}

-- the ports are read back, where each and their sum are in their limits
ports_back : (N : ℕ) (ks s : List ℕ) → 3 ≤ N → N ≤ 64 → length ks ≡ N → each_at_most 64 ks ≡ true → total ks ≤ 192 → read_ports (N ∷ (ks ++ s)) ≡ got ks s
unfolding read_ports
ports_back N ks s l h e m t = rw (le-leb 3 N l, le-leb N 64 h, bytes_back ks s N e, m, le-leb (total ks) 192 t)

-- the map that is written is read back where it passes the test `holds`
map_back : (holds : (ℕ → Bool) → Bool) (lit : ℕ → Bool) (s : List ℕ) → holds (map_bit (map_bytes lit map_width 0)) ≡ true
    → read_map_by holds (map_bytes lit map_width 0 ++ s) ≡ got (map_bytes lit map_width 0) s
unfolding read_map_by
map_back holds lit s h = rw (bytes_back (map_bytes lit map_width 0) s map_width (map_long lit map_width 0), h)

-- the table that is checked is the one written
checked_back : (meets : RingTable → Bool) (t : RingTable) (ks : List ℕ) → meets t ≡ true → length ks ≡ t.nodes → ks ++ replicate (64 - t.nodes) 0 ≡ t.ports
    → checked_by meets ks t.channels [] ≡ got t []
unfolding checked_by
checked_back meets t ks m e p = rw (e, p, m)

-- the map of a table that meets the ring rules has no place lit from the limit on
pub unlit_written : (t : RingTable) → meets_rules t ≡ true → unlit_above (ports_bytes t) (map_bit (map_bytes (lit_at t.channels) map_width 0)) ≡ true
unlit_written t m =
    let r = table_rules t m in
    none_lit_same (limit_of (ports_bytes t)) (map_bit (map_bytes (lit_at t.channels) map_width 0)) (lit_at t.channels) (map_says (lit_at t.channels))
    ∙ rw (total_nodes t.nodes t.ports (eqb-true _ _ r.spare)) r.unused

-- such a table is read back from its form by tests that this passes
pub table_back_by : (tests : Tests) (t : RingTable) → meets_rules t ≡ true → tests.map (ports_bytes t) (map_bit (map_bytes (lit_at t.channels) map_width 0)) ≡ true
    → All (λ ch. tests.fields (field_map (field_bits ch.slot)) ≡ true) t.channels → tests.table t ≡ true → read_by tests (form_of t) ≡ got t []
unfolding form_of
table_back_by tests t m map fields table =
    let r = table_rules t m in
    let l = table_limits t m in
    let lit : ℕ → Bool = lit_at t.channels in
    let spare : total (drop t.nodes t.ports) ≡ 0 = eqb-true _ _ r.spare in
    let sum : total (ports_bytes t) ≡ total t.ports = total_nodes t.nodes t.ports spare in
    let count : length (ports_bytes t) ≡ t.nodes = length-take-le t.nodes t.ports (omega (arith, l.most, l.fields)) in
    let ports : ports_bytes t ++ replicate (64 - t.nodes) 0 ≡ t.ports = rw l.fields at (nodes_zeros t.nodes t.ports spare) in
    let records : read_records_by (read_record_by tests.fields) (map_bit (map_bytes lit map_width 0)) place_count 0 (records_bytes t.channels) ≡ got t.channels [] =
    rw (append-nil, l.long) at (records_back tests.fields (map_bit (map_bytes lit map_width 0)) t.channels 0 [] fields (λ j h. rw zero-add (map_says lit j (omega (arith, l.long))))) in
    rw (
      ports_back t.nodes (ports_bytes t) (map_bytes lit map_width 0 ++ records_bytes t.channels) l.three l.most count
          (each_take 64 t.nodes t.ports (search (and_left, and_right))) (omega (arith, sum, leb-true (total t.ports) 192 (search (and_left, and_right)))),
      map_back (tests.map (ports_bytes t)) lit (records_bytes t.channels) map,
      records,
      checked_back tests.table t (ports_bytes t) table count ports,
    )

pub table_back : (t : RingTable) → meets_rules t ≡ true → read_table (form_of t) ≡ got t []
unfolding read_table
table_back t m = table_back_by tests_now t m (unlit_written t m) (all_hold t.channels) m

-- the ports of the nodes stand after their number
pub ports_are : (s : List ℕ) → Holds (λ ks r. s ≡ length ks ∷ (ks ++ r)) (read_ports s)
unfolding read_ports
ports_are s =
    then_holds _ _ (byte s) _ (byte_is s) λ N s1 e.
    unless_holds _ NodeCount (leb 3 N && leb N 64) s1 _ λ a.
    then_holds _ _ (bytes N s1) _ (bytes_are N s1) λ ks s2 q.
    unless_holds _ PortCount (each_at_most 64 ks) s2 _ λ b.
    unless_holds _ PortSum (leb (total ks) 192) s2 _ λ c.
    rw (q.1, ← q.0) e

-- the map is the next 16 bytes
map_wrote : (holds : (ℕ → Bool) → Bool) (s : List ℕ) → AreBytes s → Holds (λ m r. Wrote (λ m. m) s m r × (length m ≡ map_width)) (read_map_by holds s)
unfolding read_map_by
map_wrote holds s h =
    then_holds _ _ (bytes map_width s) _ (bytes_wrote map_width s h) λ m r q.
    unless_holds _ BadField (holds (map_bit m)) r _ λ a.
    q

-- nothing stands after the end
end_empty : (s : List ℕ) → Holds (λ u r. s ≡ []) (end s)
end_empty [] = refl
end_empty (x ∷ s) = tt

-- those parts are the form of the table read
form_is : (s ks m s1 s2 : List ℕ) (chs : Channels) → s ≡ length ks ∷ (ks ++ s1) → Wrote (λ m. m) s1 m s2 → length m ≡ map_width → RecordsWrote (map_bit m) place_count 0 s2 chs []
    → form_of (with_channels (fresh_table (length ks) ks) chs) ≡ s
unfolding form_of
form_is s ks m s1 s2 chs p q e l =
    let k : take (length ks) (ks ++ replicate (64 - length ks) 0) ≡ ks = take_at ks (replicate (64 - length ks) 0) (length ks) refl in
    let w : map_bytes (lit_at chs) map_width 0 ≡ m = rw e at (map_is (lit_at chs) m 0 q.front (λ j i. rw zero-add (l.says j (omega arith) ∙ rw zero-add))) in
    let r : records_bytes chs ≡ s2 = sym (l.wrote.is ∙ append-nil (records_bytes chs)) in
    rw (k, w, r, p, q.is)

-- the form of a table that is read is the bytes read
pub table_wrote : (s : List ℕ) → AreBytes s → Holds (λ t r. form_of t ≡ s) (read_table s)
unfolding read_table checked_by
table_wrote s h =
    then_holds _ _ (read_ports s) _ (ports_are s) λ ks s1 p.
    then_holds _ _ (read_map_by (unlit_above ks) s1) _ (map_wrote (unlit_above ks) s1 (all_right (λ x. x < 256) ks s1 (rw p at h).1)) λ m s2 q.
    then_holds _ _ (read_records (map_bit m) place_count 0 s2) _ (records_wrote (map_bit m) place_count 0 s2 q.0.rest) λ chs s3 l.
    then_holds _ _ (end s3) _ (end_empty s3) λ u s4 e.
    unless_holds _ BrokenForm (meets_rules (with_channels (fresh_table (length ks) ks) chs)) s4 _ λ g.
    form_is s ks m s1 s2 chs p q.0 q.1 (rw e at l)

-- the rules are tested last
pub table_meets : (s : List ℕ) → Holds (λ t r. meets_rules t ≡ true) (read_table s)
unfolding read_table checked_by
table_meets s =
    then_any _ (read_ports s) _ λ ks s1.
    then_any _ (read_map_by (unlit_above ks) s1) _ λ m s2.
    then_any _ (read_records (map_bit m) place_count 0 s2) _ λ chs s3.
    then_any _ (end s3) _ λ u s4.
    unless_holds _ BrokenForm (meets_rules (with_channels (fresh_table (length ks) ks) chs)) s4 _ λ g. g
