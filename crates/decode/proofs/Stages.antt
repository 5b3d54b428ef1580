-- The stages of reading a form: the ring, the map, the records, and the judgement of the table. Assumes nothing.
use Prim.Native.Nat.{ℕ, ◌+◌, ◌-◌, ◌≤◌, ◌<◌}
use mathlib.Core.Path.{◌≡◌, refl, sym, ap, ◌∙◌}
use mathlib.Core.Bool.{Bool, true, false, not}
use mathlib.Core.List.{List, [], ◌∷◌, ◌++◌}
use native.Mathlib.Omega.{arith}
use lib.Dec.{leb}
use lib.ListN.{length, get_or, take, drop, length-append, length-drop, drop_of_length-le}
use lib.Seq.{drop-cons, drop_at, drop-drop}
use mir.Syntax.{w8}
use mir.Val.{Fits}
use borrow.Author.Tests.{le-leb, lt-leb, not-true, not-false}
use Rattle.basis.proofs.Search.{at_all}
use Rattle.limits.specs.Limits.{place_count}
use Rattle.lit_words.specs.declared.Lit.{Lit}
use Rattle.lit_words.specs.Lit.{lit_bit, none_lit_from, words_of}
use Rattle.lit_words.proofs.LitBits.{words_say}
use Rattle.lit_words.proofs.NoneLit.{none_lit_same}
use Rattle.channels.specs.Channels.{Channels}
use Rattle.ports.specs.Ports.{limit_of}
use Rattle.ports.proofs.Counts.{limit_zeros}
use Rattle.refusals.specs.Answer.{verdict_answer}
use Rattle.refusals.specs.declared.Refusal.{Refusal}
use Rattle.refusals.specs.declared.Refusal.TheVariants.{CutShort, BadField, TrailingBytes, BrokenForm}
use Rattle.ring.specs.Table.{meets_rules, fresh_table, with_channels}
use Rattle.ring.specs.declared.Answered.{Answered}
use Rattle.ring.specs.declared.RingTable.{RingTable}
use Rattle.form.specs.Form.{map_width, form_of}
use Rattle.form.specs.Reader.{Field, got, fault}
use Rattle.form.specs.Reading.{answered_by, read_ports, map_bit, read_map_by, read_records, checked_by, read_table, read_of, read_answer}
use Rattle.form.proofs.Laws.{read_number, write_back}
use Rattle.form.proofs.Fields.{Holds}
use Rattle.form.proofs.Tables.{ports_are}
use Rattle.decode.specs.Begun.{ring_by, judged_table, value_of, answered, Ported, Mapped}
use Rattle.decode.proofs.Listing.{records_same}
use Rattle.std.specs.Prelude.{Result, Ok, Err}

-- a refusal on the way is what is read
pub value_fault : (b : List ℕ) (n : Refusal) → read_table b ≡ fault n → Err n ≡ value_of (read_table b)
value_fault b n h = rw h

-- so is a refused ring
ring_fault_by : (b : List ℕ) (f : Field (List ℕ)) (n : Refusal) → read_ports b ≡ f → ring_by f ≡ Err n → Err n ≡ value_of (read_table b)
unfolding read_table
ring_fault_by b (got ks s) n h e = let z : ◌≡◌ {A = ℕ} 0 1 = cc in absurd (omega arith)
ring_fault_by b (fault m) n h e = rw h (ap as_table (sym e))
  where
    as_table : Result RingTable Refusal → Result RingTable Refusal
    as_table x = x

pub ring_refused : (b : List ℕ) (n : Refusal) → Err n ≡ ring_by (read_ports b) → Err n ≡ value_of (read_table b)
ring_refused b n e = ring_fault_by b (read_ports b) n refl (sym e)

-- a ring that is made has its ports from the form
ring_got_by : (b : List ℕ) (f : Field (List ℕ)) (t : RingTable) → read_ports b ≡ f → Holds (λ ks s. b ≡ length ks ∷ (ks ++ s)) f → ring_by f ≡ Ok t → Ported b t
ring_got_by b (got ks s) t h p e =
    let t : t ≡ fresh_table (length ks) ks = ap (table_or t) (sym e) in
    let d : drop (1 + length ks) b ≡ s = rw p (drop_at (length ks ∷ ks) s (1 + length ks) (omega arith)) in
    record {
      ports = ks;
      read = rw (t, d) h;
      within = rw t (omega (arith, ap length p, length-append ks s));
      table = t;
    }
  where
    table_or : RingTable → Result RingTable Refusal → RingTable
    table_or x (Ok y) = y
    table_or x (Err n) = x
ring_got_by b (fault n) t h p e = let z : ◌≡◌ {A = ℕ} 0 1 = cc in absurd (omega arith)

pub ring_granted : (b : List ℕ) (t : RingTable) → Ok t ≡ ring_by (read_ports b) → Ported b t
ring_granted b t e = ring_got_by b (read_ports b) t refl (ports_are b) (sym e)

-- the answer by what is read
answer_by_value : (f : Field RingTable) → answered (value_of f) ≡ answered_by f
answer_by_value (got t s) = refl
answer_by_value (fault n) = refl

answer_is : (b : List ℕ) (x : Result RingTable Refusal) → x ≡ value_of (read_table b) → answered x ≡ read_of b
unfolding read_of
answer_is b x e = ap answered e ∙ answer_by_value (read_table b)

-- a form whose reading is granted is the form of the table read
writes_back : (b : List ℕ) → ((i : ℕ) → Fits w8 (get_or b i 0)) → (r : Answered) → r ≡ read_of b → r.verdict ≡ Ok tt → form_of r.table ≡ b
writes_back b h r e g = rw e (write_back b (at_all (λ x. x < 256) 0 b (λ i l. omega (arith, h i))) (rw e at g))

-- all that reading promises of its answer
pub read_says : (b : List ℕ) → ((i : ℕ) → Fits w8 (get_or b i 0)) → (x : Result RingTable Refusal) → x ≡ value_of (read_table b)
    → (answered x ≡ read_of b) × ((verdict_answer (answered x).verdict ≡ read_answer b) × ((answered x).verdict ≡ Ok tt → form_of (answered x).table ≡ b))
read_says b h x e = let is = answer_is b x e in (is, (rw is (read_number b), writes_back b h (answered x) is))

-- the map: cut short, with a bit at the limit or above, or good
module _ (b : List ℕ) (t : RingTable) (q : Ported b t) where
  pub map_cut : length b - (1 + t.nodes) < 16 → read_table b ≡ fault CutShort
  unfolding read_table read_map_by
  map_cut h = rw (q.read, lt-leb 16 (length (drop (1 + t.nodes) b)) (simp length-drop h))

  -- the ring's limit is that of the ports
  limit : limit_of t.ports ≡ limit_of q.ports
  limit = ap (λ (x : RingTable). limit_of x.ports) q.table ∙ limit_zeros q.ports (64 - length q.ports)

  module _ (h : 16 ≤ length b - (1 + t.nodes)) (lit : Lit) (w : lit ≡ words_of (map_bit (take 16 (drop (1 + t.nodes) b)))) where
    there : leb 16 (length (drop (1 + t.nodes) b)) ≡ true
    there = le-leb 16 (length (drop (1 + t.nodes) b)) (simp length-drop h)

    says : (p : ℕ) → p < place_count → lit_bit lit p ≡ map_bit (take 16 (drop (1 + t.nodes) b)) p
    says p l = rw w (words_say (map_bit (take 16 (drop (1 + t.nodes) b))) p l)

    module _ (v : Bool) (m : ℕ) (e : v ≡ none_lit_from m (lit_bit lit)) (g : m ≡ limit_of t.ports) where
      judged : none_lit_from (limit_of q.ports) (map_bit (take 16 (drop (1 + t.nodes) b))) ≡ v
      judged = sym (e ∙ rw (g, limit) (none_lit_same (limit_of q.ports) (lit_bit lit) (map_bit (take 16 (drop (1 + t.nodes) b))) says))

      pub map_bad : not v ≡ true → read_table b ≡ fault BadField
      unfolding read_table read_map_by
      map_bad k = rw (q.read, there, judged, not-true v k)

      pub map_good : not v ≡ false → Mapped b t lit
      unfolding read_table read_map_by
      map_good k =
          let n : 1 + t.nodes + map_width ≡ 1 + map_width + t.nodes = omega arith in
          record {
            ports = q.ports;
            read = rw (q.read, there, judged, not-false v k, drop-drop 16 (1 + t.nodes) b, n) (rw (records_same (map_bit (take 16 (drop (1 + t.nodes) b))) (lit_bit lit) place_count 0 (drop (1 + map_width + t.nodes) b) (λ j l. sym (says j (omega arith)))));
            within = omega (arith, q.within);
            table = q.table;
          }

-- the table that the definition judges
judged_is : (ks : List ℕ) (chs : Channels) → value_of (checked_by meets_rules ks chs []) ≡ judged_table (with_channels (fresh_table (length ks) ks) chs)
unfolding checked_by judged_table
judged_is ks chs = go (meets_rules (with_channels (fresh_table (length ks) ks) chs)) refl
  where
    go : (o : Bool) → meets_rules (with_channels (fresh_table (length ks) ks) chs) ≡ o
        → value_of (checked_by meets_rules ks chs []) ≡ judged_table (with_channels (fresh_table (length ks) ks) chs)
    go true e = rw e
    go false e = rw e

-- the code's judgement of it
pub judged_good : (t : RingTable) (v : Bool) → v ≡ meets_rules t → not v ≡ false → Ok t ≡ judged_table t
unfolding judged_table
judged_good t v e h = rw (← e, not-false v h)

pub judged_bad : (t : RingTable) (v : Bool) → v ≡ meets_rules t → not v ≡ true → Err BrokenForm ≡ judged_table t
unfolding judged_table
judged_bad t v e h = rw (← e, not-true v h)

pub ruleset judged_rules = (judged_good, judged_bad)

-- the records: refused, followed by other bytes, or the last of the form
module _ (b : List ℕ) (t : RingTable) (lit : Lit) (q : Mapped b t lit) where
  pub records_fault : (n : Refusal) → read_records (lit_bit lit) place_count 0 (drop (1 + map_width + t.nodes) b) ≡ fault n → Err n ≡ value_of (read_table b)
  records_fault n e = value_fault b n (q.read ∙ rw e)

  module _ (chs : Channels) (i : ℕ) (h : (i ≤ length b) × (read_records (lit_bit lit) place_count 0 (drop (1 + map_width + t.nodes) b) ≡ got chs (drop i b))) where
    pub trailing : i < length b → Err TrailingBytes ≡ value_of (read_table b)
    trailing l = value_fault b TrailingBytes (q.read ∙ rw (h.1, drop-cons b i 0 l))

    pub all_read : length b ≤ i → (r : Result RingTable Refusal) → r ≡ judged_table (with_channels t chs) → r ≡ value_of (read_table b)
    all_read l r g =
        let s : read_table b ≡ checked_by meets_rules q.ports chs [] = q.read ∙ rw (h.1, drop_of_length-le b l) in
        g ∙ rw q.table (sym (ap value_of s ∙ judged_is q.ports chs))

pub ruleset places_rules = (value_fault, map_cut, map_bad, map_good)
