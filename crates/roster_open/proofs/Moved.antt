-- The entries of a table after an opening and after a closing: those of before, with the moved ones at their new places and the new one filed,
-- or with one taken out. Assumes nothing.
use Prim.Native.Nat.{ℕ, zero, suc, ◌+◌, ◌≤◌, ◌<◌}
use mathlib.Core.Path.{◌≡◌, refl, sym, ap, ◌∙◌}
use mathlib.Core.Bool.{Bool, true, false, not}
use mathlib.Core.List.{List, [], ◌∷◌, ◌++◌, map}
use native.Mathlib.Omega.{arith}
use lib.Dec.{eqb, ltb}
use lib.ListN.{length, take, drop}
use borrow.Author.Tests.{eqb-true, eq-eqb, lt-ltb, le-ltb, ltb-true}
use Rattle.basis.specs.Choice.{pick, bit}
use Rattle.basis.specs.Count.{weigh, tally, All}
use Rattle.basis.specs.Search.{first_place}
use Rattle.basis.proofs.Bools.{bit_eq, all_map, all_and}
use Rattle.basis.proofs.Weigh.{weigh_map, weigh_same, weigh_zero, counted, by_key, distinct_most}
use Rattle.limits.specs.Limits.{place_count}
use Rattle.lightpath.specs.declared.Circuit.{Circuit}
use Rattle.channels.specs.Channels.{Channels, circuits, numbered, where_is}
use Rattle.channels.specs.declared.Standing.{Standing}
use Rattle.channels.proofs.Numbers.{live_placed}
use Rattle.moves.specs.declared.Move.{Move}
use Rattle.rules.proofs.Rules.{Rules, rules_hold, limits_hold}
use Rattle.steps.specs.Kept.{Kept, PlanKeeps}
use Rattle.steps.specs.Moved.{moved, moved_to, Names}
use Rattle.roster.specs.Roster.{key_in, filed, entries}
use Rattle.roster.specs.Held.{Typed}
use Rattle.roster.specs.Listed.{Ordered, Written}
use Rattle.roster.proofs.Filing.{filed_weighs, filed_ordered, single_apart, one_order}
use Rattle.roster.proofs.Standings.{entered, entries_weigh, entries_ordered}
use Rattle.roster.proofs.Arranged.{entries_written}
use Rattle.roster_open.specs.InPlace.{replaced, replaced_all, Single}

-- the number of an entry
abbrev pub number_in : Standing → ℕ
number_in e = e.circuit.number

module _ (N : ℕ) (ks : List ℕ) (t : Channels) (rules : Rules N ks t) where
  -- each number of a table stands once among its entries
  pub entries_single : Single (entries t)
  entries_single n =
      omega (arith, entries_weigh t rules.numbers (limits_hold N ks t rules).long (λ e. bit (eqb (number_in e) n)), distinct_most (λ c. c.number) (circuits t) rules.numbers n)

-- entries in order that weigh what a table's circuits with their places do are its entries
pub are_entries : (N : ℕ) (ks : List ℕ) (t : Channels) → Rules N ks t → Typed t → (es : List Standing) → Ordered es
    → ((v : Standing → ℕ) → weigh v es ≡ weigh (λ x. v (entered t x)) (circuits t)) → entries t ≡ es
are_entries N ks t rules typed es o h =
    one_order (entries t) es (entries_ordered t) o
    (single_apart (entries t) (entries_written N ks t rules typed) (entries_single N ks t rules))
    (λ v. entries_weigh t rules.numbers (limits_hold N ks t rules).long v ∙ sym (h v))

-- an entry after several moves
abbrev replaced_by : List Move → Standing → Standing
replaced_by [] e = e
replaced_by (m ∷ ms) e = replaced_by ms (replaced m e)

replaced_weighs : (v : Standing → ℕ) (ms : List Move) (es : List Standing) → weigh v (replaced_all ms es) ≡ weigh (λ e. v (replaced_by ms e)) es
replaced_weighs v [] es = refl
replaced_weighs v (m ∷ ms) es = replaced_weighs v ms (map (replaced m) es) ∙ weigh_map (λ e. v (replaced_by ms e)) (replaced m) es

-- a move changes no circuit
pub same_circuit_in : (m : Move) (e : Standing) → (replaced m e).circuit ≡ e.circuit
same_circuit_in m e = go (eqb m.number e.circuit.number)
  where
    go : (o : Bool) → (pick o (record { place = m.to.0; circuit = e.circuit }) e).circuit ≡ e.circuit
    go true = refl
    go false = refl

-- so none changes the order
pub replaced_ordered : (m : Move) (es : List Standing) → Ordered es → Ordered (map (replaced m) es)
replaced_ordered m [] h = tt
replaced_ordered m (e ∷ es) h = (above es h.0, replaced_ordered m es h.1)
  where
    above : (ns : List Standing) → All (λ n. key_in e ≤ key_in n) ns → All (λ n. key_in (replaced m e) ≤ key_in n) (map (replaced m) ns)
    above [] l = tt
    above (n ∷ ns) l = (rw (same_circuit_in m e, same_circuit_in m n) l.0, above ns l.1)

pub replaced_all_ordered : (ms : List Move) (es : List Standing) → Ordered es → Ordered (replaced_all ms es)
replaced_all_ordered [] es h = h
replaced_all_ordered (m ∷ ms) es h = replaced_all_ordered ms (map (replaced m) es) (replaced_ordered m es h)

module _ (N : ℕ) (ks : List ℕ) (t : Channels) (rules : Rules N ks t) (gone new : List Circuit) (t' : Channels) (ms : List Move)
    (kept : Kept N ks t gone new t' ms) where
  again : Rules N ks t'
  again = rules_hold N ks t' kept.rules

  -- a circuit that no record names and that is there afterwards stands where it stood
  pub stays : (n : ℕ) → moved_to t t' n ≡ false → 0 < numbered n (circuits t') → where_is t n ≡ where_is t' n
  stays n e l =
      let p = live_placed t' n (limits_hold N ks t' again).long (lt-ltb 0 (numbered n (circuits t')) l) in
      go (eqb (where_is t n) (where_is t' n)) refl (rw (lt-ltb (where_is t' n) place_count p) at e)
    where
      go : (o : Bool) → eqb (where_is t n) (where_is t' n) ≡ o → not o ≡ false → where_is t n ≡ where_is t' n
      go true f g = eqb-true (where_is t n) (where_is t' n) f
      go false f g = cc

-- the records say where a circuit stands
replaced_to : (t' : Channels) (ms : List Move) → All (λ m. m.to.0 ≡ where_is t' m.number) ms → (x : Circuit) (q : ℕ)
    → replaced_by ms (record { place = q; circuit = x })
    ≡ record { place = pick (ltb 0 (tally (λ m. m.number) x.number ms)) (where_is t' x.number) q; circuit = x }
replaced_to t' [] h x q = refl
replaced_to t' (m ∷ ms) h x q = go (eqb m.number x.number) refl (replaced_to t' ms h.1 x)
  where
    go : (o : Bool) → eqb m.number x.number ≡ o
        → ((q : ℕ) → replaced_by ms (record { place = q; circuit = x }) ≡ record { place = pick (ltb 0 (tally (λ m. m.number) x.number ms)) (where_is t' x.number) q; circuit = x })
        → replaced_by ms (pick o (record { place = m.to.0; circuit = x }) (record { place = q; circuit = x }))
        ≡ record { place = pick (ltb 0 (bit o + tally (λ m. m.number) x.number ms)) (where_is t' x.number) q; circuit = x }
    go true e r =
        let to : m.to.0 ≡ where_is t' x.number = h.0 ∙ ap (where_is t') (eqb-true m.number x.number e) in
        rw to (r (where_is t' x.number) ∙ (λ i. record { place = both (ltb 0 (tally (λ m. m.number) x.number ms)) i; circuit = x })
        ∙ rw (lt-ltb 0 (1 + tally (λ m. m.number) x.number ms) (omega arith)))
      where
        both : (b : Bool) → pick b (where_is t' x.number) (where_is t' x.number) ≡ where_is t' x.number
        both true = refl
        both false = refl
    go false e r = let z : 0 + tally (λ m. m.number) x.number ms ≡ tally (λ m. m.number) x.number ms = omega arith in rw z (r q)

module _ (N : ℕ) (ks : List ℕ) (t : Channels) (rules : Rules N ks t) (c : Circuit) (t' : Channels) (p : ℕ) (ms : List Move)
    (k : PlanKeeps N ks t c t' p ms) where
  -- each old circuit's entry, after the moves, is its entry in the second table
  old_entries : All (λ x. replaced_by ms (entered t x) ≡ entered t' x) (circuits t)
  old_entries =
      all_map (λ x. (tally (λ m. m.number) x.number ms ≡ bit (moved t t' x)) × (0 < numbered x.number (circuits t)))
      (λ x. replaced_by ms (entered t x) ≡ entered t' x) one (circuits t)
      (all_and _ _ (circuits t) k.kept.once (counted (λ c. c.number) (circuits t)))
    where
      to : All (λ m. m.to.0 ≡ where_is t' m.number) ms
      to = all_map (Names t t') (λ m. m.to.0 ≡ where_is t' m.number) (λ m n. n.now) ms k.kept.named

      one : (x : Circuit) → (tally (λ m. m.number) x.number ms ≡ bit (moved t t' x)) × (0 < numbered x.number (circuits t))
          → replaced_by ms (entered t x) ≡ entered t' x
      one x h = replaced_to t' ms to x (where_is t x.number) ∙ (λ i. record { place = place (moved t t' x) refl i; circuit = x })
        where
          place : (o : Bool) → moved t t' x ≡ o → pick (ltb 0 (tally (λ m. m.number) x.number ms)) (where_is t' x.number) (where_is t x.number) ≡ where_is t' x.number
          place true e = rw (lt-ltb 0 (tally (λ m. m.number) x.number ms) (omega (arith, rw e at h.0)))
          place false e =
              rw (le-ltb 0 (tally (λ m. m.number) x.number ms) (omega (arith, rw e at h.0)))
              (stays N ks t rules [] (c ∷ []) t' ms k.kept x.number e (omega (arith, h.1, k.kept.exact (λ y. bit (eqb y.number x.number)))))

  -- 02, E7: the entries of the table after an opening are the old ones, the moved circuits' with their new places, and the new circuit's filed
  -- among them
  pub opened_entries : Typed t' → entries t' ≡ filed (record { place = p; circuit = c }) (replaced_all ms (entries t))
  opened_entries typed =
      are_entries N ks t' (rules_hold N ks t' k.kept.rules) typed (filed (record { place = p; circuit = c }) (replaced_all ms (entries t)))
      (filed_ordered (record { place = p; circuit = c }) (replaced_all ms (entries t)) (replaced_all_ordered ms (entries t) (entries_ordered t)))
      (λ v. omega (
        arith,
        filed_weighs v (record { place = p; circuit = c }) (replaced_all ms (entries t)),
        replaced_weighs v ms (entries t),
        entries_weigh t rules.numbers (limits_hold N ks t rules).long (λ e. v (replaced_by ms e)),
        weigh_same (λ x. v (replaced_by ms (entered t x))) (λ x. v (entered t' x)) (circuits t) (all_map _ _ (λ x e. ap v e) (circuits t) old_entries),
        k.kept.exact (λ x. v (entered t' x)),
        ap (λ q. v (record { place = q; circuit = c })) k.placed,
      ))

  -- the records name places that there are
  pub moved_there : All (λ m. m.to.0 < place_count) ms
  moved_there = all_map (Names t t') (λ m. m.to.0 < place_count) there ms k.kept.named
    where
      there : (m : Move) → Names t t' m → m.to.0 < place_count
      there m n =
          let r = rules_hold N ks t' k.kept.rules in
          let l = live_placed t' m.number (limits_hold N ks t' r).long (lt-ltb 0 (numbered m.number (circuits t')) (omega (arith, ltb-true 0 (numbered m.number (circuits t)) n.was, k.kept.exact (λ y. bit (eqb y.number m.number))))) in
          omega (arith, n.now)

-- the entries without that of a number
abbrev pub without_at : ℕ → List Standing → List Standing
without_at i es = take i es ++ drop (suc i) es

-- what they weigh, where the number stands once
without_weighs : (v : Standing → ℕ) (n : ℕ) (es : List Standing) → tally number_in n es ≤ 1 → first_place (λ e. eqb (number_in e) n) es < length es
    → weigh v (without_at (first_place (λ e. eqb (number_in e) n) es) es) ≡ weigh (λ e. pick (eqb (number_in e) n) 0 (v e)) es
without_weighs v n [] h l = absurd (omega arith)
without_weighs v n (e ∷ es) h l = go (eqb (number_in e) n) refl (without_weighs v n es)
  where
    none : (ns : List Standing) → tally number_in n ns ≡ 0 → weigh v ns ≡ weigh (λ e. pick (eqb (number_in e) n) 0 (v e)) ns
    none [] z = refl
    none (m ∷ ns) z = one (eqb (number_in m) n) refl (none ns (omega arith))
      where
        one : (o : Bool) → eqb (number_in m) n ≡ o → weigh v ns ≡ weigh (λ e. pick (eqb (number_in e) n) 0 (v e)) ns
            → v m + weigh v ns ≡ pick o 0 (v m) + weigh (λ e. pick (eqb (number_in e) n) 0 (v e)) ns
        one true f r = absurd (omega (arith, rw f at z))
        one false f r = omega arith

    go : (o : Bool) → eqb (number_in e) n ≡ o
        → (tally number_in n es ≤ 1 → first_place (λ e. eqb (number_in e) n) es < length es
        → weigh v (without_at (first_place (λ e. eqb (number_in e) n) es) es) ≡ weigh (λ e. pick (eqb (number_in e) n) 0 (v e)) es)
        → weigh v (without_at (pick o 0 (suc (first_place (λ e. eqb (number_in e) n) es))) (e ∷ es)) ≡ pick o 0 (v e) + weigh (λ e. pick (eqb (number_in e) n) 0 (v e)) es
    go true f r = omega (arith, none es (omega (arith, rw f at h)))
    go false f r = omega (arith, r (omega (arith, rw f at h)) (omega (arith, rw f at l)))

without_all : (P : Standing → Type 0) (i : ℕ) (es : List Standing) → All P es → All P (without_at i es)
without_all P zero [] h = tt
without_all P zero (e ∷ es) h = h.1
without_all P (suc i) [] h = tt
without_all P (suc i) (e ∷ es) h = (h.0, without_all P i es h.1)

pub without_ordered : (i : ℕ) (es : List Standing) → Ordered es → Ordered (without_at i es)
without_ordered zero [] h = tt
without_ordered zero (e ∷ es) h = h.1
without_ordered (suc i) [] h = tt
without_ordered (suc i) (e ∷ es) h = (without_all (λ n. key_in e ≤ key_in n) i es h.0, without_ordered i es h.1)

pub without_written : (i : ℕ) (es : List Standing) → All Written es → All Written (without_at i es)
without_written = without_all Written

module _ (N : ℕ) (ks : List ℕ) (t : Channels) (rules : Rules N ks t) (n : ℕ) (x : Circuit) (is : x.number ≡ n) (t' : Channels)
    (kept : Kept N ks t (x ∷ []) [] t' []) where
  abbrev others : Circuit → ℕ
  others y = bit (eqb y.number n)

  -- none of the second table has the number
  gone : All (λ y. eqb y.number n ≡ false) (circuits t')
  gone =
      all_map (λ y. others y ≡ 0) (λ y. eqb y.number n ≡ false) (λ y. no (eqb y.number n)) (circuits t')
      (weigh_zero others (circuits t')
      (omega (arith, kept.exact others, bit_eq x.number n is, distinct_most (λ c. c.number) (circuits t) rules.numbers n)))
    where
      no : (o : Bool) → bit o ≡ 0 → o ≡ false
      no true z = absurd (omega arith)
      no false z = refl

  -- and each stands where it stood
  same_places : All (λ y. entered t' y ≡ entered t y) (circuits t')
  same_places =
      all_map (λ y. 0 < numbered y.number (circuits t')) (λ y. entered t' y ≡ entered t y) one (circuits t') (counted (λ c. c.number) (circuits t'))
    where
      still : (k : ℕ) → 0 < numbered k (circuits t) → moved_to t t' k ≡ false
      still =
          by_key (λ c. c.number) (λ k. moved_to t t' k ≡ false) (circuits t)
          (all_map (λ y. 0 ≡ bit (moved t t' y)) (λ y. moved t t' y ≡ false) (λ y. no (moved t t' y)) (circuits t) kept.once)
        where
          no : (o : Bool) → 0 ≡ bit o → o ≡ false
          no true z = absurd (omega arith)
          no false z = refl

      one : (y : Circuit) → 0 < numbered y.number (circuits t') → entered t' y ≡ entered t y
      one y l =
          let s = still y.number (omega (arith, l, kept.exact (λ z. bit (eqb z.number y.number)))) in
          let e = stays N ks t rules (x ∷ []) [] t' [] kept y.number s l in
          λ i. record { place = sym e i; circuit = y }

  -- 02, E7: the entries of the table after a closing are the old ones without that of the number
  pub closed_entries : Typed t' → first_place (λ e. eqb (number_in e) n) (entries t) < length (entries t)
      → entries t' ≡ without_at (first_place (λ e. eqb (number_in e) n) (entries t)) (entries t)
  closed_entries typed l =
      are_entries N ks t' (rules_hold N ks t' kept.rules) typed (without_at (first_place (λ e. eqb (number_in e) n) (entries t)) (entries t))
      (without_ordered (first_place (λ e. eqb (number_in e) n) (entries t)) (entries t) (entries_ordered t)) weighs
    where
      weighs : (v : Standing → ℕ) → weigh v (without_at (first_place (λ e. eqb (number_in e) n) (entries t)) (entries t)) ≡ weigh (λ y. v (entered t' y)) (circuits t')
      weighs v =
          let f : Circuit → ℕ = λ y. pick (eqb y.number n) 0 (v (entered t y)) in
          let z : f x ≡ 0 = rw (eq-eqb x.number n is) in
          omega (
            arith,
            without_weighs v n (entries t) (entries_single N ks t rules n) l,
            entries_weigh t rules.numbers (limits_hold N ks t rules).long (λ e. pick (eqb (number_in e) n) 0 (v e)),
            kept.exact f,
            z,
            weigh_same f (λ y. v (entered t' y)) (circuits t')
                (all_map (λ y. (eqb y.number n ≡ false) × (entered t' y ≡ entered t y)) (λ y. f y ≡ v (entered t' y)) (λ y h. rw (h.0, h.1)) (circuits t')
                (all_and _ _ (circuits t') gone same_places)),
          )
