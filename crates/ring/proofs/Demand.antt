-- Demand 3, for every table that meets the ring rules, whatever led to it, and whatever opening is requested with whatever lent list: of
-- what is decided by value, and of the lent list after it. Assumes nothing.
use Prim.Native.Nat.{ℕ}
use mathlib.Core.Path.{◌≡◌, refl, sym, ap, subst, ◌∙◌}
use mathlib.Core.Bool.{Bool, true, false}
use mathlib.Core.List.{List, [], ◌∷◌}
use native.Mathlib.Omega.{arith}
use lib.ListN.{length, get_or, take, drop}
use borrow.Author.Tests.{ltb-false}
use Rattle.basis.specs.Count.{weigh, All}
use Rattle.lightpath.specs.declared.Circuit.{Circuit}
use Rattle.lightpath.specs.declared.Place.{Place}
use Rattle.channels.specs.Channels.{Channels, circuits, circuit_of}
use Rattle.channels.proofs.Numbers.{one_place_lem}
use Rattle.moves.specs.Records.{moves_of, listed}
use Rattle.moves.specs.Lent.{written}
use Rattle.moves.specs.declared.Move.{Move}
use Rattle.moves.proofs.Listed.{listed_moves}
use Rattle.moves.proofs.Listed.{listed_most}
use Rattle.moves.proofs.Front.{length_fronted, take_fronted, drop_fronted, fronted_none}
use Rattle.rules.proofs.Rules.{Rules, rules_hold}
use Rattle.steps.proofs.Chain.{kept_found}
use Rattle.refusals.specs.Refusal.{number_of, judged, Verdict}
use Rattle.refusals.specs.declared.Refusal.{Refusal}
use Rattle.refusals.specs.Answer.{refusal, some_given, first_number, answer_by}
use Rattle.refusals.proofs.Reasons.{none_given, some_given_lem}
use Rattle.ring.specs.Table.{RingTable, meets_rules, with_channels}
use Rattle.ring.specs.Opening.{Opened, Decision, open_causes, planned, placing, decided_by, decide_of, open_of, lent_after}
use Rattle.ring.specs.Answer.{opening_answer}
use Rattle.ring.specs.Demand3.{reasons, Refused3, Served3, ServedBy, Demand3, moves_in, Demand3Lent}
use Rattle.ring.specs.Numbers.{open_reasons, open_values}
use Rattle.refusals.proofs.Judged.{none_holds}
use Rattle.ring.proofs.Causes.{agree}
use Rattle.ring.proofs.Numbers.{open_numbers}
use Rattle.ring.proofs.Deciding.{decided, serves}
use Rattle.std.specs.Prelude.{Ok, Err}

-- the places after a circuit was placed
abbrev after : RingTable → Circuit → Channels
after t c = (placing t c).opened.table.channels

module _ (t : RingTable) (c : Circuit) (n : ℕ) (rules : meets_rules t ≡ true) where
  -- a request that no cause meets
  module _ (g : judged (open_causes t c n) ≡ Ok tt) where
    -- the places after it meet the rules
    again : Rules t.nodes t.ports (after t c)
    again = rules_hold t.nodes t.ports (after t c) (serves t c n rules g).kept.rules

    -- exactly the circuits of the first table and the new one are there
    exact : (w : Circuit → ℕ) → weigh w (circuits (after t c)) ≡ weigh w (c ∷ circuits t.channels)
    exact w = omega (arith, (serves t c n rules g).kept.exact w)

    -- each circuit is there with all its fields
    whole : All (λ x. circuit_of (after t c) x.number ≡ x) (c ∷ circuits t.channels)
    whole = kept_found t.nodes t.ports t.channels (c ∷ []) (after t c) (planned t c).moves (serves t c n rules g).kept

    -- the moves by value are the plan's
    pub moves : listed (moves_of (planned t c).moves) ≡ (planned t c).moves
    moves = listed_moves (planned t c).moves (serves t c n rules g).few

    -- the second table and the records, as demanded
    served : Served3 t c (with_channels t (after t c)) (planned t c).taken (length (planned t c).moves) (listed (moves_of (planned t c).moves))
    served =
        let s = serves t c n rules g in
        rw moves (record {
          same_nodes = refl;
          same_ports = refl;
          rules = s.kept.rules;
          exact = exact;
          old = whole.1;
          new = whole.0;
          one_place = λ n q l. one_place_lem (after t c) again.numbers n q l;
          steps = refl;
          placed = s.placed;
          few = s.few;
          count = s.kept.count;
          many = refl;
          named = s.kept.named;
          once = s.kept.once;
          follows = s.follows;
          links = s.kept.links;
        })

    -- which are the answer's
    serve : ServedBy t c (decide_of t c n).opened (listed (decide_of t c n).moves)
    serve =
        subst (λ (d : Decision). ServedBy t c d.opened (listed d.moves)) (sym (decided t c n rules (Ok tt) g))
        ((planned t c).taken, length (planned t c).moves, (planned t c).looks, refl, served)

  -- a request that a cause meets is refused by the number of the first
  turned : some_given (reasons t c n) ≡ true → (r : Refusal) × (decide_of t c n ≡ decided_by t c (Err r)) × (number_of r ≡ first_number (reasons t c n))
  turned h =
      let x = some_given_lem (open_causes t c n) (reasons t c n) (agree t c n) h in
      (x.0, decided t c n rules (Err x.0) x.1, x.2)

  -- with nothing changed
  refuse : some_given (reasons t c n) ≡ true → Refused3 t c n (decide_of t c n).opened (listed (decide_of t c n).moves)
  refuse h =
      let x = turned h in
      record {
        answer = ap (λ d. opening_answer d.opened.answer) x.1 ∙ ap refusal x.2;
        table = ap (λ d. d.opened.table) x.1;
        none = ap (λ d. listed d.moves) x.1;
      }

  -- where no reason is given no cause is met
  granted_none : some_given (reasons t c n) ≡ false → judged (open_causes t c n) ≡ Ok tt
  granted_none h = none_given (open_causes t c n) (reasons t c n) (agree t c n) h

  -- an opening that is served leaves one circuit more
  more : ServedBy t c (decide_of t c n).opened (listed (decide_of t c n).moves) → (decide_of t c n).opened.table ≡ t → ⊥
  more s e = omega (arith, s.4.exact (λ x. 1), ap (λ u. weigh (λ x. 1) (circuits u.channels)) e)

  -- Demand 3: the whole of it, of an opening by value, for every table that meets the ring rules
  pub demand3 : Demand3 t c n (decide_of t c n).opened (listed (decide_of t c n).moves)
  demand3 = record {
    equal = (λ e. cause (some_given (reasons t c n)) refl e, λ h. (refuse h).table);
    refused = refuse;
    served = λ h. serve (granted_none h);
  }
    where
      cause : (o : Bool) → some_given (reasons t c n) ≡ o → (decide_of t c n).opened.table ≡ t → o ≡ true
      cause true h e = refl
      cause false h e = absurd (more (serve (granted_none h)) e)

  -- Demand 3: the place, the moves and the looks answered are those of the plan, and demand 3 holds of that place, those moves and their
  -- records
  pub answered : (p : Place) (k looks : ℕ) → (decide_of t c n).opened.answer ≡ Ok (record { place = p; moves = k; looks = looks })
      → Served3 t c (decide_of t c n).opened.table p.0 k (listed (decide_of t c n).moves) × (p.0 ∷ k ∷ looks ∷ [] ≡ open_values t c)
  answered p k looks h = go (judged (open_causes t c n)) refl
    where
      -- the values of the answer
      told : (v : Verdict) → judged (open_causes t c n) ≡ v → (opening_answer (decided_by t c v).opened.answer).values ≡ p.0 ∷ k ∷ looks ∷ []
      told v e = ap (λ d. (opening_answer d.opened.answer).values) (sym (decided t c n rules v e)) ∙ ap (λ a. (opening_answer a).values) h

      go : (v : Verdict) → judged (open_causes t c n) ≡ v
          → Served3 t c (decide_of t c n).opened.table p.0 k (listed (decide_of t c n).moves) × (p.0 ∷ k ∷ looks ∷ [] ≡ open_values t c)
      go (Ok tt) e =
          let is = told (Ok tt) e in
          (rw (← ap (λ l. get_or l 0 0) is, ← ap (λ l. get_or l 1 0) is, decided t c n rules (Ok tt) e) (served e), sym is)
      go (Err r) e = absurd (omega (arith, ap length (told (Err r) e)))

-- a decision answers by the numbers; and meets it
abbrev pub Numbered : RingTable → Circuit → ℕ → Decision → Type 0
Numbered t c n d = opening_answer d.opened.answer ≡ answer_by (open_reasons t c n) (open_values t c)

abbrev pub Keeps : RingTable → Circuit → ℕ → Decision → Type 0
Keeps t c n d = Demand3 t c n d.opened (listed d.moves)

-- so does one as defined
module _ (t : RingTable) (c : Circuit) (n : ℕ) (d : Decision) (e : d ≡ decide_of t c n) where
  pub decides_valid : meets_rules t ≡ true → (d ≡ decide_of t c n) × (Numbered t c n d × Keeps t c n d)
  decides_valid rules = (e, (rw e (open_numbers t c n), rw e (demand3 t c n rules)))

  pub decides : (d ≡ decide_of t c n) × (Numbered t c n d × (meets_rules t ≡ true → Keeps t c n d))
  decides = (e, (rw e (open_numbers t c n), λ rules. (decides_valid rules).1.1))

module _ (t : RingTable) (c : Circuit) (lent : List Move) (rules : meets_rules t ≡ true) where
  -- the list after what is decided: its first records are the moves, and the others keep their values
  abbrev Writes : Decision → Type 0
  Writes d =
      (take (moves_in d.opened.answer) (written lent d.moves) ≡ listed d.moves)
      × (drop (moves_in d.opened.answer) (written lent d.moves) ≡ drop (moves_in d.opened.answer) lent)

  writes : Writes (decide_of t c (length lent))
  writes = go (judged (open_causes t c (length lent))) refl
    where
      go : (v : Verdict) → judged (open_causes t c (length lent)) ≡ v → Writes (decide_of t c (length lent))
      go (Ok tt) g =
          let ms = moves_of (planned t c).moves in
          let same = moves t c (length lent) rules g in
          subst Writes (sym (decided t c (length lent) rules (Ok tt) g))
          (subst (λ l. (take (length l) (written lent ms) ≡ listed ms) × (drop (length l) (written lent ms) ≡ drop (length l) lent)) same
          (take_fronted _ (listed ms) lent (ltb-false (length lent) 3 (none_holds (open_causes t c (length lent)) g).0), drop_fronted _ (listed ms) lent))
      go (Err r) g = subst Writes (sym (decided t c (length lent) rules (Err r) g)) (refl, fronted_none _ lent)

  -- demand 3 of the list
  demand3_lent : Demand3Lent t c lent (open_of t c lent) (lent_after t c lent)
  demand3_lent = record {
    demand = subst (Demand3 t c (length lent) (open_of t c lent)) (sym writes.0) (demand3 t c (length lent) rules);
    long = length_fronted _ _ lent (listed_most (decide_of t c (length lent)).moves);
    rest = writes.1;
    untouched = λ h. ap (λ d. written lent d.moves) (turned t c (length lent) rules h).1 ∙ fronted_none _ lent;
  }

-- Demand 3: the whole of it, of an opening with any lent list, and of the list after it
pub demand3_open : (t : RingTable) (c : Circuit) (lent : List Move) (o : Opened) (lent' : List Move) → o ≡ open_of t c lent
    → lent' ≡ lent_after t c lent → meets_rules t ≡ true → Demand3Lent t c lent o lent'
demand3_open t c lent o lent' e f rules = rw (e, f) (demand3_lent t c lent rules)
