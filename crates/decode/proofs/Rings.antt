-- Reading N and the ports. Assumes nothing.
use Prim.Native.Nat.{ℕ, ◌+◌, ◌-◌, ◌≤◌, ◌<◌}
use mathlib.Core.Path.{◌≡◌, refl, sym, ap, ◌∙◌}
use mathlib.Core.Bool.{Bool, true, false}
use mathlib.Core.List.{List, [], ◌∷◌}
use native.Mathlib.Omega.{arith}
use lib.Dec.{leb}
use lib.ListN.{length, get_or, take, drop}
use lib.Seq.{length-take-le}
use borrow.Author.Tests.{le-leb, lt-leb, eq-eqb}
use Rattle.basis.specs.Count.{total}
use Rattle.ports.specs.Ports.{each_at_most}
use Rattle.refusals.specs.declared.Refusal.{Refusal}
use Rattle.refusals.specs.declared.Refusal.TheVariants.{NodeCount, PortCount, PortSum, CutShort}
use Rattle.ring.specs.Making.{make_of}
use Rattle.ring.specs.declared.Answered.{Answered}
use Rattle.form.specs.Reader.{fault, and_then, give, ◌unless◌}
use Rattle.form.specs.Reading.{read_ports}
use Rattle.decode.specs.Begun.{ring_by, answered}
use Rattle.refusals.specs.Refusal.{Verdict}
use Rattle.ring.specs.declared.RingTable.{RingTable}
use Rattle.std.specs.Prelude.{Result, Ok, Err}

-- a refusal on the way is the answer
pub ring_fault : (b : List ℕ) (n : Refusal) → read_ports b ≡ fault n → Err n ≡ ring_by (read_ports b)
ring_fault b n h = rw h

-- the first byte is not there, or is no number of nodes
pub nodes_cut : (b : List ℕ) → length b < 1 → read_ports b ≡ fault CutShort
unfolding read_ports
nodes_cut [] h = refl
nodes_cut (n ∷ b) h = absurd (omega arith)

pub nodes_low : (b : List ℕ) → 1 ≤ length b → get_or b 0 0 < 3 → read_ports b ≡ fault NodeCount
unfolding read_ports
nodes_low [] h l = absurd (omega arith)
nodes_low (n ∷ b) h l = rw (lt-leb 3 n l)

pub nodes_high : (b : List ℕ) → 1 ≤ length b → 3 ≤ get_or b 0 0 → 64 < get_or b 0 0 → read_ports b ≡ fault NodeCount
unfolding read_ports
nodes_high [] h l g = absurd (omega arith)
nodes_high (n ∷ b) h l g = rw (le-leb 3 n l, lt-leb n 64 g)

-- the ports are not all there
pub ports_cut : (b : List ℕ) → 1 ≤ length b → 3 ≤ get_or b 0 0 → get_or b 0 0 ≤ 64 → length b < 1 + get_or b 0 0 → read_ports b ≡ fault CutShort
unfolding read_ports
ports_cut [] h l g k = absurd (omega arith)
ports_cut (n ∷ b) h l g k = rw (le-leb 3 n l, le-leb n 64 g, lt-leb n (length b) (omega arith))

-- making judges the ports as reading does
made : (N : ℕ) (ks s : List ℕ) → 3 ≤ N → N ≤ 64 → length ks ≡ N
    → make_of N ks ≡ answered (ring_by (and_then ((PortCount unless each_at_most 64 ks) s) (λ u. λ s. and_then ((PortSum unless leb (total ks) 192) s) (λ v. give ks))))
unfolding make_of
made N ks s l h e = go (each_at_most 64 ks) (leb (total ks) 192) refl refl
  where
    go : (p q : Bool) → each_at_most 64 ks ≡ p → leb (total ks) 192 ≡ q
        → make_of N ks ≡ answered (ring_by (and_then ((PortCount unless each_at_most 64 ks) s) (λ u. λ s. and_then ((PortSum unless leb (total ks) 192) s) (λ v. give ks))))
    go false q x y = rw (le-leb 3 N l, le-leb N 64 h, eq-eqb (length ks) N e, x)
    go true false x y = rw (le-leb 3 N l, le-leb N 64 h, eq-eqb (length ks) N e, x, y)
    go true true x y = rw (le-leb 3 N l, le-leb N 64 h, eq-eqb (length ks) N e, x, y, e)

-- or they are
-- or they are
made_there : (b : List ℕ) (r : Answered) → 1 ≤ length b → 3 ≤ get_or b 0 0 → get_or b 0 0 ≤ 64 → 1 + get_or b 0 0 ≤ length b
    → r ≡ make_of (get_or b 0 0) (take (1 + get_or b 0 0 - 1) (drop 1 b)) → r ≡ answered (ring_by (read_ports b))
unfolding read_ports
made_there [] r h l g k e = absurd (omega arith)
made_there (n ∷ b) r h l g k e =
    let m : 1 + n - 1 ≡ n = omega arith in
    rw (le-leb 3 n l, le-leb n 64 g, le-leb n (length b) (omega arith)) ((rw m at e) ∙ made n (take n b) (drop n b) l g (length-take-le n b (omega arith)))

-- what an answer says of the reading that it is of
answered_err : (x : Result RingTable Refusal) (r : Answered) (n : Refusal) → r ≡ answered x → r.verdict ≡ Err n → Err n ≡ x
answered_err (Ok t) r n e g = let z : ◌≡◌ {A = ℕ} 0 1 = cc in absurd (omega arith)
answered_err (Err m) r n e g = ap as_table (sym g ∙ ap (λ (y : Answered). y.verdict) e)
  where
    as_table : Verdict → Result RingTable Refusal
    as_table (Ok _) = Err m
    as_table (Err y) = Err y

answered_ok : (x : Result RingTable Refusal) (r : Answered) → r ≡ answered x → r.verdict ≡ Ok tt → Ok r.table ≡ x
answered_ok (Ok t) r e g = ap (λ (y : Answered). Ok y.table) e
answered_ok (Err m) r e g = let z : ◌≡◌ {A = ℕ} 0 1 = cc in absurd (omega arith)

module _ (b : List ℕ) (r : Answered) (h : 1 ≤ length b) (l : 3 ≤ get_or b 0 0) (g : get_or b 0 0 ≤ 64) (k : 1 + get_or b 0 0 ≤ length b)
    (e : r ≡ make_of (get_or b 0 0) (take (1 + get_or b 0 0 - 1) (drop 1 b))) where
  pub ports_refused : (n : Refusal) → r.verdict ≡ Err n → Err n ≡ ring_by (read_ports b)
  ports_refused n v = answered_err (ring_by (read_ports b)) r n (made_there b r h l g k e) v

  pub ports_granted : r.verdict ≡ Ok tt → Ok r.table ≡ ring_by (read_ports b)
  ports_granted v = answered_ok (ring_by (read_ports b)) r (made_there b r h l g k e) v

pub ruleset ring_rules = (ring_fault, nodes_cut, nodes_low, nodes_high, ports_cut)
