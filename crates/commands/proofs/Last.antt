-- The last word of a line, by position. Assumes nothing.
use Prim.Native.Nat.{ℕ, suc, ◌+◌, ◌-◌, ◌≤◌, ◌<◌}
use mathlib.Core.Path.{◌≡◌, refl, sym, ◌∙◌}
use mathlib.Core.List.{List, [], ◌∷◌}
use native.Mathlib.Numerals.{add-one}
use native.Mathlib.Omega.{arith}
use lib.ListN.{length, drop, get_or, drop_of_length-le}
use borrow.Author.Tests.{eq-eqb, ne_eqb}
use Rattle.words.specs.Split.{other_words}
use Rattle.words.specs.Field.{NextWord}
use Rattle.words.proofs.Split.{words_next}
use Rattle.commands.specs.declared.Command.{Command}
use Rattle.commands.specs.declared.Command.TheVariants.{Read, ReadFile, Ask, Desk}
use Rattle.commands.specs.declared.Question.TheVariants.{Write, WriteFile}
use Rattle.commands.specs.Command.{last_at, by_first, read_command, write_command}
use Rattle.commands.specs.Parsed.{LastWord}

-- where there is one, it begins within the line
pub last_within : (l : List ℕ) (ws : List (List ℕ)) → (last_at l ws ≡ 0 → ⊥) → last_at l ws < length l
last_within l [] n = absurd (n refl)
last_within l ([] ∷ ws) n = absurd (n refl)
last_within l ((x ∷ w) ∷ []) n = let z : 0 < length l - length (x ∷ w) = omega (arith, n) in omega arith
last_within l ((x ∷ w) ∷ v ∷ ws) n = absurd (n refl)

-- an empty word is none, nor is one with others after it
last_empty : (l w : List ℕ) (ws : List (List ℕ)) → length w ≡ 0 → last_at l (w ∷ ws) ≡ 0
last_empty l [] ws e = refl
last_empty l (x ∷ w) ws e = absurd (omega arith)

last_more : (l w v : List ℕ) (ws : List (List ℕ)) → last_at l (w ∷ v ∷ ws) ≡ 0
last_more l [] v ws = refl
last_more l (x ∷ w) v ws = refl

last_one : (l w : List ℕ) → (length w ≡ 0 → ⊥) → last_at l (w ∷ []) ≡ length l - length w
last_one l [] n = absurd (n refl)
last_one l (x ∷ w) n = refl

module _ (l : List ℕ) (at : ℕ) where
  -- no word is left
  pub no_last : other_words (drop at l) ≡ [] → last_at l (other_words (drop at l)) ≡ 0
  no_last e = rw e

  module _ (w : List ℕ) (end : ℕ) (q : NextWord l at w end) where
    pub empty_last : length w ≡ 0 → last_at l (other_words (drop at l)) ≡ 0
    empty_last e = rw q.is (last_empty l w _ e)

    pub more_last : end < length l → last_at l (other_words (drop at l)) ≡ 0
    more_last m = rw (q.is, words_next l end m) (last_more l w _ _)

    pub the_last : (length w ≡ 0 → ⊥) → length l ≤ end → LastWord l (other_words (drop at l)) (end - length w)
    the_last n m =
        record {
          is = rw (q.is, drop_of_length-le l m) (last_one l w n ∙ omega (arith, q.within));
          some = omega (arith, q.ends);
          within = omega (arith, q.within, q.ends, n);
        }

pub ruleset last = (no_last, empty_last, more_last, the_last)

-- what the last word asks for, by its first byte
module _ (l : List ℕ) (ws : List (List ℕ)) where
  pub read_nothing : last_at l ws ≡ 0 → (x : Command) → x ≡ Desk → x ≡ read_command l ws
  unfolding read_command
  read_nothing e x k = k ∙ rw e

  module _ (s : ℕ) (q : LastWord l ws s) where
    begun : s ≡ 0 → ⊥
    begun e = omega (arith, q.some)

    pub read_path : get_or l s 0 ≡ 64 → ReadFile (s + 1) ≡ read_command l ws
    unfolding read_command
    read_path e = rw (add-one s, q.is, ne_eqb s 0 begun, eq-eqb (get_or l s 0) 64 e)

    pub read_digits : (get_or l s 0 ≡ 64 → ⊥) → Read s ≡ read_command l ws
    unfolding read_command
    read_digits n = rw (q.is, ne_eqb s 0 begun, ne_eqb (get_or l s 0) 64 n)

pub write_alone : (l : List ℕ) (at : ℕ) → length l ≤ at → Ask Write ≡ write_command l (other_words (drop at l))
unfolding write_command
write_alone l at h = rw (drop_of_length-le l h)

module _ (l : List ℕ) (at : ℕ) (h : at < length l) where
  -- of a line that goes on, by its last word
  write_last : (s : ℕ) → last_at l (other_words (drop at l)) ≡ s → write_command l (other_words (drop at l)) ≡ by_first l s (Ask (WriteFile (suc s))) Desk
  unfolding write_command
  write_last s e = rw (← e, words_next l at h)

  pub write_nothing : last_at l (other_words (drop at l)) ≡ 0 → (x : Command) → x ≡ Desk → x ≡ write_command l (other_words (drop at l))
  write_nothing e x k = k ∙ sym (write_last 0 e)

  module _ (s : ℕ) (q : LastWord l (other_words (drop at l)) s) where
    pub write_path : get_or l s 0 ≡ 64 → Ask (WriteFile (s + 1)) ≡ write_command l (other_words (drop at l))
    write_path e = sym (write_last s q.is ∙ rw (ne_eqb s 0 (begun l _ s q), eq-eqb (get_or l s 0) 64 e, add-one s))

    pub write_word : (get_or l s 0 ≡ 64 → ⊥) → Desk ≡ write_command l (other_words (drop at l))
    write_word n = sym (write_last s q.is ∙ rw (ne_eqb s 0 (begun l _ s q), ne_eqb (get_or l s 0) 64 n))

pub ruleset last_asks = (read_nothing, read_path, read_digits, write_alone, write_nothing, write_path, write_word)
