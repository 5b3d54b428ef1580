-- Closing a circuit: the answer goes by the tests; of a table that meets the ring rules a live number takes exactly its circuit off,
-- another is refused by 15, and the rules are met again. Assumes nothing.
use Prim.Native.Nat.{ℕ, ◌≤◌, ◌<◌}
use mathlib.Core.Path.{◌≡◌, refl, sym, ap, subst, ◌∙◌}
use mathlib.Core.Logic.{◌≢◌}
use mathlib.Core.Bool.{Bool, true, false, not}
use mathlib.Core.List.{[], ◌∷◌}
use lib.Dec.{ltb}
use borrow.Author.Tests.{not-true, lt-ltb, le-ltb}
use Rattle.limits.specs.Limits.{place_count}
use Rattle.channels.specs.Channels.{Channels, at, live, where_is, circuit_of}
use Rattle.channels.proofs.Numbers.{live_where}
use Rattle.channels.specs.Closing.{closed}
use Rattle.steps.specs.Kept.{Kept}
use Rattle.steps.proofs.Closing.{closes, close_there}
use Rattle.refusals.specs.declared.Refusal.TheVariants.{NotLive, BrokenRule}
use Rattle.refusals.specs.Answer.{refusal, verdict_answer}
use Rattle.ring.specs.Table.{RingTable, meets_rules, with_channels}
use Rattle.ring.specs.Closing.{Answered, closed_by, close_of}
use Rattle.ring.proofs.TableRules.{table_rules, table_limits}
use Rattle.std.specs.Prelude.{Ok, Err}

-- from the table t to the one answered the circuit of number n is taken off, and nothing else is changed
pub record TakenOff (t : RingTable) (n : ℕ) (o : Answered) : Type 0 where
  pub answer : verdict_answer o.verdict ≡ record { number = 0; values = [] }
  pub same_nodes : o.table.nodes ≡ t.nodes
  pub same_ports : o.table.ports ≡ t.ports
  -- exactly that circuit goes, no other moves, and the ring rules are met again
  pub kept : Kept t.nodes t.ports t.channels (circuit_of t.channels n ∷ []) [] o.table.channels []
  -- every other place is as it was
  pub elsewhere : (q : ℕ) → q ≢ where_is t.channels n → at o.table.channels q ≡ at t.channels q

-- a closing that is refused by a number leaves the table as it was
pub record NotTaken (t : RingTable) (n : ℕ) (o : Answered) : Type 0 where
  pub answer : verdict_answer o.verdict ≡ refusal n
  pub same : o.table ≡ t

-- a table that was found to break a rule is met by 22
pub close_unmet : (t : RingTable) (n : ℕ) (r : Bool) → r ≡ meets_rules t → not r ≡ true → closed_by t n (Err BrokenRule) ≡ close_of t n
unfolding close_of
close_unmet t n r e h = rw (← e, not-true r h)

module _ (t : RingTable) (n : ℕ) (rules : meets_rules t ≡ true) where
  -- a live number is closed
  close_live : live t.channels n ≡ true → close_of t n ≡ closed_by t n (Ok tt)
  unfolding close_of
  close_live l = rw (rules, l)

  -- another is refused by 15
  close_dead : live t.channels n ≡ false → close_of t n ≡ closed_by t n (Err NotLive)
  unfolding close_of
  close_dead d = rw (rules, d)

  -- it is live where it has a place
  placed : live t.channels n ≡ ltb (where_is t.channels n) place_count
  placed = live_where t.channels n (table_limits t rules).long

  -- a number that was found is closed
  pub close_found : (p : ℕ) (chs : Channels) → p ≡ where_is t.channels n → p < place_count → chs ≡ closed t.channels n
      → record { table = with_channels t chs; verdict = Ok tt } ≡ close_of t n
  close_found p chs e h k = rw k (sym (close_live (placed ∙ lt-ltb (where_is t.channels n) place_count (rw e at h))))

  -- one that was not is refused
  pub close_missed : (p : ℕ) → p ≡ where_is t.channels n → place_count ≤ p → closed_by t n (Err NotLive) ≡ close_of t n
  close_missed p e h = sym (close_dead (placed ∙ le-ltb (where_is t.channels n) place_count (rw e at h)))

  -- what the closing of the places keeps
  keeps : live t.channels n ≡ true → Kept t.nodes t.ports t.channels (circuit_of t.channels n ∷ []) [] (closed t.channels n) []
  keeps l = closes t.nodes t.ports t.channels (table_rules t rules) n l

  -- 01: "Closing takes the circuit off and moves none.": the circuit of a live number goes, and every other place is as it was
  pub close_takes : live t.channels n ≡ true → TakenOff t n (close_of t n)
  close_takes l =
      subst (TakenOff t n) (sym (close_live l))
      (record {
        answer = refl;
        same_nodes = refl;
        same_ports = refl;
        kept = keeps l;
        elsewhere = close_there t.channels n;
      })

  -- 01: a closing of a number that is not live is refused by 15, and the table is as it was
  pub close_refuses : live t.channels n ≡ false → NotTaken t 15 (close_of t n)
  close_refuses d = subst (NotTaken t 15) (sym (close_dead d)) (record { answer = refl; same = refl })

  -- Law: whatever a closing answers, the table after it meets the ring rules
  pub close_rules : meets_rules (close_of t n).table ≡ true
  close_rules = go (live t.channels n) refl
    where
      go : (o : Bool) → live t.channels n ≡ o → meets_rules (close_of t n).table ≡ true
      go true l = ap (λ a. meets_rules a.table) (close_live l) ∙ (keeps l).rules
      go false d = ap (λ a. meets_rules a.table) (close_dead d) ∙ rules
