-- The loops that set numbers side by side and compare each with each later one. `search (rules, apart)` finds their steps. Assumes nothing.
use Prim.Native.Nat.{ℕ, zero, suc, ◌+◌, ◌-◌, ◌≤◌, ◌<◌, suc-le-suc}
use mathlib.Core.Path.{◌≡◌, refl, sym, ap, ◌∙◌}
use mathlib.Core.Logic.{◌≢◌}
use mathlib.Core.Bool.{Bool, true, false}
use mathlib.Core.List.{List, [], ◌∷◌, map, map-append}
use native.Mathlib.Decide.{ℕ_discrete}
use native.Mathlib.Nat.{add_assoc, le_of_suc-le-suc, not-suc-le-zero}
use native.Mathlib.Numerals.{add-one}
use native.Mathlib.Omega.{arith}
use mir.Val.{bool_byte}
use borrow.Author.Tests.{eq-eqb, ne_eqb}
use lib.Dec.{eqb}
use lib.ListN.{length, get_or, set, take, drop, replicate, length-set, length-replicate}
use lib.Seq.{get_or-take, get_or-drop, take-length, take-suc, take-suc-set}
use Rattle.basis.specs.Count.{tally, distinct}
use Rattle.basis.proofs.Bools.{fails, bit_eq, bit_ne}
use Rattle.basis.proofs.Weigh.{distinct_most, most_distinct, distinct_map}
use Rattle.lightpath.specs.Circuit.{blank_circuit}
use Rattle.lightpath.specs.declared.Circuit.{Circuit}

-- the number at a position
abbrev pub number_at : List ℕ → ℕ → ℕ
number_at ns i = get_or ns i 0

-- every position before i is told apart from every later one
pub record Told (ns : List ℕ) (i : ℕ) : Type 0 where
  pub before : (a b : ℕ) → a < i → a < b → b < length ns → number_at ns a ≢ number_at ns b

-- and i from those before j
pub record Telling (ns : List ℕ) (i j : ℕ) : Type 0 where
  pub from : (b : ℕ) → i < b → b < j → number_at ns i ≢ number_at ns b

-- the start of the outer loop
pub told_start : (ns : List ℕ) → Told ns 0
told_start ns = record { before = λ a b l k m. absurd (not-suc-le-zero l) }

-- what the inner loop knows, having met the number at i so many times in the first j after it: none, and it is told apart; or some, and two
-- are alike
pub record Compared (ns : List ℕ) (i j k : ℕ) : Type 0 where
  pub apart : k ≡ 0 → Telling ns i (i + 1 + j)
  pub alike : 0 < k → false ≡ distinct (λ k. k) ns
  pub few : k ≤ j

-- its start
pub compared_start : (ns : List ℕ) (i : ℕ) → Compared ns i 0 0
compared_start ns i = record { apart = λ e. record { from = λ b l k. absurd (omega arith) }; alike = λ l. absurd (omega arith); few = omega arith }

-- one more that is another number
telling_next : (ns : List ℕ) (i j : ℕ) → Telling ns i j → number_at ns j ≢ number_at ns i → Telling ns i (j + 1)
telling_next ns i j h n = record { from = step }
  where
    step : (b : ℕ) → i < b → b < j + 1 → number_at ns i ≢ number_at ns b
    step b l k = go (ℕ_discrete b j)
      where
        go : Dec (b ≡ j) → number_at ns i ≢ number_at ns b
        go (yes e) = rw e (λ z. n (sym z))
        go (no m) = h.from b l (omega arith)

-- its end is the outer loop's step
told_more : (ns : List ℕ) (i j : ℕ) → Told ns i → Telling ns i j → length ns ≤ j → Told ns (i + 1)
told_more ns i j h t l = record { before = step }
  where
    step : (a b : ℕ) → a < i + 1 → a < b → b < length ns → number_at ns a ≢ number_at ns b
    step a b k m q = go (ℕ_discrete a i)
      where
        go : Dec (a ≡ i) → number_at ns a ≢ number_at ns b
        go (yes e) = rw e (t.from b (omega arith) (omega arith))
        go (no z) = h.before a b (omega arith) m q

pub told_next : (ns : List ℕ) (i j k : ℕ) → Told ns i → Compared ns i j k → k ≤ 0 → length ns - (i + 1) ≤ j → Told ns (i + 1)
told_next ns i j k h t e l = told_more ns i (i + 1 + j) h (t.apart (omega arith)) (omega arith)

-- or that of all, where two are alike
pub met_again : (ns : List ℕ) (i j k : ℕ) → Compared ns i j k → 0 < k → false ≡ distinct (λ k. k) ns
met_again ns i j k h l = h.alike l

-- a number that some position has is counted
has_tally : (ns : List ℕ) (b k : ℕ) → b < length ns → number_at ns b ≡ k → 0 < tally (λ k. k) k ns
has_tally [] b k l e = absurd (not-suc-le-zero l)
has_tally (x ∷ ns) zero k l e = omega (arith, bit_eq (x) k e)
has_tally (x ∷ ns) (suc b) k l e = omega (arith, has_tally ns b k (le_of_suc-le-suc l) e)

-- one that none has is not
none_tally : (ns : List ℕ) (k : ℕ) → ((b : ℕ) → b < length ns → number_at ns b ≢ k) → tally (λ k. k) k ns ≡ 0
none_tally [] k h = refl
none_tally (x ∷ ns) k h = omega (arith, bit_ne (x) k (h 0 (omega arith)), none_tally ns k (λ b l. h (suc b) (suc-le-suc l)))

-- where every position is told apart from every later one, numbers are distinct
told_distinct : (ns : List ℕ) → Told ns (length ns) → distinct (λ k. k) ns ≡ true
told_distinct ns h = most_distinct (λ k. k) ns (most ns h.before)
  where
    most : (ns : List ℕ) → ((a b : ℕ) → a < length ns → a < b → b < length ns → number_at ns a ≢ number_at ns b)
        → (k : ℕ) → tally (λ k. k) k ns ≤ 1
    most [] h k = omega arith
    most (x ∷ ns) h k =
        go (ℕ_discrete (x) k) (most ns (λ a b l m q. h (suc a) (suc b) (suc-le-suc l) (suc-le-suc m) (suc-le-suc q)) k)
      where
        go : Dec (x ≡ k) → tally (λ k. k) k ns ≤ 1 → tally (λ k. k) k (x ∷ ns) ≤ 1
        go (yes e) rest =
            omega (arith, bit_eq (x) k e, none_tally ns k (λ b l z. h 0 (suc b) (omega arith) (omega arith) (suc-le-suc l) (rw e (sym z))))
        go (no n) rest = omega (arith, bit_ne (x) k n)

-- a number that two positions have is counted twice
alike_tally : (ns : List ℕ) (a b : ℕ) → a < b → b < length ns → number_at ns b ≡ number_at ns a
    → 1 < tally (λ k. k) (number_at ns a) ns
alike_tally [] a b l m e = absurd (not-suc-le-zero m)
alike_tally (x ∷ ns) zero zero l m e = absurd (not-suc-le-zero l)
alike_tally (x ∷ ns) zero (suc b) l m e =
    omega (arith, bit_eq (x) (x) refl, has_tally ns b (x) (le_of_suc-le-suc m) e)
alike_tally (x ∷ ns) (suc a) zero l m e = absurd (not-suc-le-zero l)
alike_tally (x ∷ ns) (suc a) (suc b) l m e = omega (arith, alike_tally ns a b (le_of_suc-le-suc l) (le_of_suc-le-suc m) e)

-- all told apart: they are distinct
pub told_end : (ns : List ℕ) (i : ℕ) → Told ns i → length ns ≤ i → true ≡ distinct (λ k. k) ns
told_end ns i h l = sym (told_distinct ns (record { before = λ a b k q r. h.before a b (omega arith) q r }))

-- two alike: they are not
told_hit : (ns : List ℕ) (i j : ℕ) → number_at ns j ≡ number_at ns i → i < j → j < length ns → false ≡ distinct (λ k. k) ns
told_hit ns i j e m l =
    fails (distinct (λ k. k) ns) (λ q. omega (arith, distinct_most (λ k. k) ns q (number_at ns i), alike_tally ns i j m l e))

-- the step of the inner loop
pub compared_next : (ns : List ℕ) (i j k : ℕ) → Compared ns i j k → i + 1 + j < length ns
    → Compared ns i (j + 1) (k + bool_byte (eqb (number_at (take (length ns - (i + 1)) (drop (i + 1) ns)) j) (number_at ns i)))
compared_next ns i j k h o = rw (get_or-take (length ns - (i + 1)) (drop (i + 1) ns) j 0 (omega arith), get_or-drop) (go (ℕ_discrete (number_at ns (i + 1 + j)) (number_at ns i)))
  where
    go : Dec (number_at ns (i + 1 + j) ≡ number_at ns i) → Compared ns i (j + 1) (k + bool_byte (eqb (number_at ns (i + 1 + j)) (number_at ns i)))
    go (yes e) = rw (eq-eqb (number_at ns (i + 1 + j)) (number_at ns i) e) (record {
      apart = λ u. absurd (omega arith);
      alike = λ u. told_hit ns i (i + 1 + j) e (omega arith) o;
      few = omega (arith, h.few);
    })
    go (no e) = rw (ne_eqb (number_at ns (i + 1 + j)) (number_at ns i) e) (record {
      apart = λ u. rw (← add_assoc (i + 1) j 1) (telling_next ns i (i + 1 + j) (h.apart (omega arith)) e);
      alike = λ u. h.alike (omega arith);
      few = omega (arith, h.few);
    })

pub ruleset apart = (told_start, compared_start, told_next, met_again, told_end)

-- the numbers of the circuits before i stand side by side, in an array with room for n
pub record Beside (cs : List Circuit) (ns : List ℕ) (n i : ℕ) : Type 0 where
  pub are : take i ns ≡ map (λ c. c.number) (take i cs)
  pub long : length ns ≡ n

pub beside_start : (cs : List Circuit) (n : ℕ) → Beside cs (replicate n 0) n 0
beside_start cs n = record { are = refl; long = length-replicate {A = ℕ} n 0 }

pub beside_next : (cs : List Circuit) (ns : List ℕ) (n i : ℕ) → Beside cs ns n i → i < length cs → length cs ≤ n
    → Beside cs (set ns i (get_or cs i blank_circuit).number) n (i + 1)
beside_next cs ns n i h l m = record { are = are; long = length-set ns i _ ∙ h.long }
  where
    are : take (i + 1) (set ns i (get_or cs i blank_circuit).number) ≡ map (λ c. c.number) (take (i + 1) cs)
    are = rw (add-one, take-suc-set ns i (get_or cs i blank_circuit).number (omega (arith, h.long)), h.are, take-suc cs i blank_circuit l, map-append)

pub beside_end : (cs : List Circuit) (ns : List ℕ) (n i : ℕ) → Beside cs ns n i → i ≡ length cs → take (length cs) ns ≡ map (λ c. c.number) cs
beside_end cs ns n i h e = let k : take (length cs) ns ≡ map (λ c. c.number) (take (length cs) cs) = rw e at h.are in rw take-length at k

-- numbers are distinct where those of the circuits are
pub numbers_distinct : (cs : List Circuit) (ns : List ℕ) (r : Bool) → ns ≡ map (λ c. c.number) cs → r ≡ distinct (λ k. k) ns
    → r ≡ distinct (λ c. c.number) cs
numbers_distinct cs ns r e h = h ∙ ap (distinct (λ k. k)) e ∙ distinct_map (λ c. c.number) cs
