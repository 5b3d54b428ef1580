-- What is kept by one operation after another, where no circuit moves in both: the records of the first and then those of the second name
-- each circuit that has moved once, with its place before both and after both. Assumes nothing.
use Prim.Native.Nat.{ℕ, ◌+◌, ◌≤◌, ◌<◌}
use mathlib.Core.Path.{◌≡◌, refl, sym, ap, ◌∙◌}
use mathlib.Core.Bool.{true, not}
use mathlib.Core.List.{List, [], ◌++◌}
use native.Mathlib.Decide.{ℕ_discrete}
use native.Mathlib.Omega.{arith}
use lib.Dec.{eqb, ltb}
use lib.ListN.{length}
use borrow.Author.Tests.{eq-eqb, ne_eqb, ltb-true, lt-ltb}
use Rattle.basis.specs.Choice.{bit}
use Rattle.basis.specs.Count.{weigh, tally, distinct, All}
use Rattle.basis.proofs.Bools.{all_map, all_and, all_join}
use Rattle.basis.proofs.Weigh.{weigh_append, weigh_same, ones_weigh, counted, by_key, tally_swap, distinct_most}
use Rattle.limits.specs.Limits.{place_count}
use Rattle.lightpath.specs.declared.Circuit.{Circuit}
use Rattle.slots.proofs.Contents.{of_number}
use Rattle.channels.specs.Channels.{Channels, circuits, numbered, live, where_is, circuit_of}
use Rattle.channels.proofs.Numbers.{live_placed, holds_each}
use Rattle.moves.specs.declared.Move.{Move}
use Rattle.rules.specs.Rules.{ring_rules}
use Rattle.rules.proofs.Rules.{Rules, rules_hold, limits_hold}
use Rattle.rules.proofs.Fits.{rules_links}
use Rattle.steps.specs.Kept.{Kept}
use Rattle.steps.specs.Moved.{moved_to, moved, Names}
use Rattle.steps.proofs.Sound.{keeps}

-- over two operations, from t to t₁ and from there to t₂, no circuit moves in both
abbrev pub AtMostOnce : Channels → Channels → Channels → Type 0
AtMostOnce t t₁ t₂ = (k : ℕ) → live t k ≡ true → bit (moved_to t t₁ k) + bit (moved_to t₁ t₂ k) ≤ 1

-- how many records have number k
abbrev pub records_of : ℕ → List Move → ℕ
records_of k ms = tally (λ m. m.number) k ms

-- a number that has a place and has not moved has its place still
pub unmoved : (t t' : Channels) (k : ℕ) → where_is t' k < place_count → bit (moved_to t t' k) ≡ 0 → where_is t' k ≡ where_is t k
unmoved t t' k l z = go (ℕ_discrete (where_is t' k) (where_is t k))
  where
    go : Dec (where_is t' k ≡ where_is t k) → where_is t' k ≡ where_is t k
    go (yes e) = e
    go (no n) = absurd (omega (arith, rw (lt-ltb (where_is t' k) place_count l, ne_eqb (where_is t k) (where_is t' k) (λ e. n (sym e))) at z))

module _ (t t' : Channels) (ms : List Move) (names : All (Names t t') ms) where
  -- records that name each circuit that has moved once, and no other, are as many as have moved
  pub count_of : distinct (λ c. c.number) (circuits t) ≡ true → All (λ x. records_of x.number ms ≡ bit (moved t t' x)) (circuits t)
      → length ms ≡ weigh (λ x. bit (moved t t' x)) (circuits t)
  count_of numbers once =
      sym (ones_weigh (λ m. numbered m.number (circuits t)) ms (all_map _ _ one ms names))
      ∙ tally_swap (λ m. m.number) (λ c. c.number) ms (circuits t)
      ∙ weigh_same _ _ (circuits t) once
    where
      one : (m : Move) → Names t t' m → numbered m.number (circuits t) ≡ 1
      one m h =
          omega (
            arith,
            ltb-true 0 (numbered m.number (circuits t)) h.was,
            distinct_most (λ c. c.number) (circuits t) numbers m.number,
          )

module _ (N : ℕ) (ks : List ℕ) (t : Channels) (gone new : List Circuit) (t' : Channels) (ms : List Move) where
  -- a live number is recorded once where its circuit has moved, and else not at all
  pub named_once : Kept N ks t gone new t' ms → (k : ℕ) → live t k ≡ true → records_of k ms ≡ bit (moved_to t t' k)
  named_once kept k l =
      by_key (λ c. c.number) (λ k. records_of k ms ≡ bit (moved_to t t' k)) (circuits t) kept.once k (ltb-true 0 (numbered k (circuits t)) l)

  -- what is kept: the number of moves follows from the names, and the links from the rules
  pub kept_from : Rules N ks t → ring_rules N ks t' ≡ true
      → ((w : Circuit → ℕ) → weigh w (circuits t') + weigh w gone ≡ weigh w new + weigh w (circuits t)) → All (Names t t') ms
      → ((k : ℕ) → live t k ≡ true → records_of k ms ≡ bit (moved_to t t' k)) → Kept N ks t gone new t' ms
  kept_from rules again exact names once = record {
    rules = again;
    exact = exact;
    count = count_of t t' ms names rules.numbers each;
    named = names;
    once = each;
    links = rules_links N ks t' (rules_hold N ks t' again);
  }
    where
      each : All (λ x. records_of x.number ms ≡ bit (moved t t' x)) (circuits t)
      each = all_map _ _ (λ x l. once x.number (lt-ltb _ _ l)) (circuits t) (counted (λ c. c.number) (circuits t))

-- nothing done keeps all
pub nothing_kept : (N : ℕ) (ks : List ℕ) (t : Channels) → Rules N ks t → Kept N ks t [] [] t []
nothing_kept N ks t rules =
    keeps N ks t [] [] [] [] [] rules rules.numbers rules.ports
    (record { apart = tt; within = tt; fit = tt; took = λ w. refl; gave = λ w. refl; stayed = tt; went = tt }) rules.unused

-- each circuit of the first table, and each new one, is found in the second under its number, with all its fields
pub kept_found : (N : ℕ) (ks : List ℕ) (t : Channels) (new : List Circuit) (t' : Channels) (ms : List Move) → Kept N ks t [] new t' ms
    → All (λ x. circuit_of t' x.number ≡ x) (new ++ circuits t)
kept_found N ks t new t' ms kept =
    let again = rules_hold N ks t' kept.rules in
    holds_each t' again.numbers (limits_hold N ks t' again).long (new ++ circuits t)
    (λ w. omega (arith, kept.exact w, weigh_append w new (circuits t)))

module _ (N : ℕ) (ks : List ℕ) (t t' : Channels) (ms : List Move) (kept : Kept N ks t [] [] t' ms) where
  -- where no circuit comes and none goes, the same numbers are live
  pub same_live : (k : ℕ) → live t k ≡ live t' k
  same_live k = let e : numbered k (circuits t) ≡ numbered k (circuits t') = omega (arith, kept.exact (of_number k)) in ap (ltb 0) e

  -- and each has a place
  pub kept_placed : (k : ℕ) → live t k ≡ true → where_is t' k < place_count
  kept_placed k l = live_placed t' k (limits_hold N ks t' (rules_hold N ks t' kept.rules)).long (sym (same_live k) ∙ l)

  -- and is that of the same circuit
  pub same_found : Rules N ks t → (k : ℕ) → live t k ≡ true → circuit_of t k ≡ circuit_of t' k
  same_found rules k l =
      by_key (λ c. c.number) (λ k. circuit_of t k ≡ circuit_of t' k) (circuits t)
      (all_map _ _ (λ x h. h.0 ∙ sym h.1) (circuits t)
      (all_and _ _ (circuits t) (kept_found N ks t [] t [] (nothing_kept N ks t rules)) (kept_found N ks t [] t' ms kept))) k
      (ltb-true 0 (numbered k (circuits t)) l)

-- from p by q to r, where at most one of the two steps goes elsewhere, as many do as from p to r
two_steps : (p q r : ℕ) → bit (not (eqb p q)) + bit (not (eqb q r)) ≤ 1 → bit (not (eqb p r)) ≡ bit (not (eqb p q)) + bit (not (eqb q r))
two_steps p q r h = go (ℕ_discrete p q) (ℕ_discrete q r)
  where
    go : Dec (p ≡ q) → Dec (q ≡ r) → bit (not (eqb p r)) ≡ bit (not (eqb p q)) + bit (not (eqb q r))
    go (yes e) d = rw (e, eq-eqb q q refl) (omega arith)
    go (no n) (yes e) = rw (← e, eq-eqb q q refl) (omega arith)
    go (no n) (no m) = absurd (omega (arith, rw (ne_eqb p q n, ne_eqb q r m) at h))

module _ (N : ℕ) (ks : List ℕ) (t t₁ t₂ : Channels) (ms ns : List Move) (rules : Rules N ks t) (first : Kept N ks t [] [] t₁ ms)
    (second : Kept N ks t₁ [] [] t₂ ns) (one : AtMostOnce t t₁ t₂) where
  -- a number that is live before the first operation is so after it
  live_then : (k : ℕ) → live t k ≡ true → live t₁ k ≡ true
  live_then k l = sym (same_live N ks t t₁ ms first k) ∙ l

  -- a circuit has moved over both as often as in the one and in the other
  moved_then : (k : ℕ) → live t k ≡ true → bit (moved_to t t₂ k) ≡ bit (moved_to t t₁ k) + bit (moved_to t₁ t₂ k)
  moved_then k l =
      let i = lt-ltb (where_is t₁ k) place_count (kept_placed N ks t t₁ ms first k l) in
      let j = lt-ltb (where_is t₂ k) place_count (kept_placed N ks t₁ t₂ ns second k (live_then k l)) in
      rw (i, j) (two_steps (where_is t k) (where_is t₁ k) (where_is t₂ k) (rw (i, j) at (one k l)))

  -- so its records are those of both
  once : (k : ℕ) → live t k ≡ true → records_of k (ms ++ ns) ≡ bit (moved_to t t₂ k)
  once k l =
      omega (
        arith,
        weigh_append (λ m. bit (eqb m.number k)) ms ns,
        named_once N ks t [] [] t₁ ms first k l,
        named_once N ks t₁ [] [] t₂ ns second k (live_then k l),
        moved_then k l,
      )

  -- one that the first operation moves has its new place still after the second
  earlier : (m : Move) → Names t t₁ m × (0 < records_of m.number ms) → Names t t₂ m
  earlier m h =
      let l = h.0.was in
      record {
        was = l;
        old = h.0.old;
        now =
            h.0.now
            ∙ sym (unmoved t₁ t₂ m.number (kept_placed N ks t₁ t₂ ns second m.number (live_then m.number l))
            (omega (arith, one m.number l, named_once N ks t [] [] t₁ ms first m.number l, h.1)));
      }

  -- one that the second moves has its old place from before the first
  later : (n : Move) → Names t₁ t₂ n × (0 < records_of n.number ns) → Names t t₂ n
  later n h =
      let l = same_live N ks t t₁ ms first n.number ∙ h.0.was in
      record {
        was = l;
        old =
            h.0.old
            ∙ unmoved t t₁ n.number (kept_placed N ks t t₁ ms first n.number l)
            (omega (arith, one n.number l, named_once N ks t₁ [] [] t₂ ns second n.number h.0.was, h.1));
        now = h.0.now;
      }

  -- Law: what one operation keeps, and then another in which no circuit moves that moved in the first, is kept over both: the records of the
  -- one and then of the other name each moved circuit once, with both places
  pub kept_then : Kept N ks t [] [] t₂ (ms ++ ns)
  kept_then =
      kept_from N ks t [] [] t₂ (ms ++ ns) rules second.rules (λ w. omega (arith, first.exact w, second.exact w))
      (all_join (Names t t₂) ms ns (all_map _ _ earlier ms (all_and _ _ ms first.named (counted (λ m. m.number) ms)))
      (all_map _ _ later ns (all_and _ _ ns second.named (counted (λ n. n.number) ns)))) once
