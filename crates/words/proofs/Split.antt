-- The words of a text: the first of them and the others. Assumes nothing.
use mathlib.Core.Path.{◌≡◌, refl, ◌∙◌}
use mathlib.Core.Bool.{Bool, true, false}
use mathlib.Core.List.{List, [], ◌∷◌, ◌++◌, append-nil}
use Prim.Native.Nat.{ℕ, ◌+◌, ◌-◌, ◌≤◌, ◌<◌}
use native.Mathlib.Numerals.{add-one}
use native.Mathlib.Omega.{arith}
use lib.Dec.{eqb, ltb}
use lib.ListN.{length, take, drop, length-take, length-drop, drop_of_length-le}
use lib.Seq.{drop-cons, append_snoc}
use borrow.Author.Tests.{ltb-false}
use Rattle.std.specs.Prelude.{Option, position}
use Rattle.std.specs.Option.{unwrap_or}
use Rattle.std.specs.List.{position_or_len}
use Rattle.words.specs.Split.{words_after, words, other_words, word_length}

-- the first word is a part of the text
word_within : (s : List ℕ) → word_length s ≤ length s
word_within [] = omega arith
word_within (x ∷ s) = go (eqb x 32) refl (word_within s)
  where
    go : (t : Bool) → eqb x 32 ≡ t → word_length s ≤ length s → word_length (x ∷ s) ≤ length (x ∷ s)
    go true e ih = rw e (omega arith)
    go false e ih = rw e (omega arith)

-- the first space ends it, or else the text's end
place_is : (s : List ℕ) → word_length s ≡ position_or_len (λ x. eqb x 32) s
place_is [] = refl
place_is (x ∷ s) = go (eqb x 32) refl (place_is s)
  where
    go : (t : Bool) → eqb x 32 ≡ t → word_length s ≡ position_or_len (λ x. eqb x 32) s → word_length (x ∷ s) ≡ position_or_len (λ x. eqb x 32) (x ∷ s)
    go true e ih = rw e
    go false e ih = rw (e, ih) (omega arith)

pub length_found : (s : List ℕ) (r : Option ℕ) → r ≡ position (λ x. eqb x 32) s → (n : ℕ) → n ≡ unwrap_or r (length s) → n ≡ word_length s
length_found s r e n k = go (ltb (word_length s) (length s)) refl
  where
    go : (t : Bool) → ltb (word_length s) (length s) ≡ t → n ≡ word_length s
    go true h = k ∙ rw (e, ← place_is s, h)
    go false h = let g : length s ≤ word_length s = ltb-false (word_length s) (length s) h in k ∙ rw (e, ← place_is s, h) (omega (arith, g, word_within s))

-- past the end none begins
pub past_end : (b : List ℕ) (at : ℕ) → length b < at → at ≡ at + word_length (drop at b)
past_end b at h = let g : length b ≤ at = omega arith in rw (drop_of_length-le b g) (omega arith)

-- the first word and the others
first_after : (w s : List ℕ) → words_after w s ≡ (w ++ take (word_length s) s) ∷ other_words (drop (word_length s) s)
unfolding words_after
first_after w [] = rw append-nil
first_after w (x ∷ s) = go (eqb x 32) refl (first_after (w ++ (x ∷ [])) s)
  where
    go : (t : Bool) → eqb x 32 ≡ t → words_after (w ++ (x ∷ [])) s ≡ ((w ++ (x ∷ [])) ++ take (word_length s) s) ∷ other_words (drop (word_length s) s)
        → words_after w (x ∷ s) ≡ (w ++ take (word_length (x ∷ s)) (x ∷ s)) ∷ other_words (drop (word_length (x ∷ s)) (x ∷ s))
    go true e ih = rw (e, append-nil)
    go false e ih = rw e (ih ∙ rw append_snoc)

pub words_first : (s : List ℕ) → words s ≡ take (word_length s) s ∷ other_words (drop (word_length s) s)
words_first s = first_after [] s

-- where the line goes on there is another word
pub words_next : (b : List ℕ) (i : ℕ) → i < length b
    → other_words (drop i b) ≡ take (word_length (drop (i + 1) b)) (drop (i + 1) b) ∷ other_words (drop (word_length (drop (i + 1) b)) (drop (i + 1) b))
words_next b i h = rw (drop-cons b i 0, ← add-one i) (words_first (drop (i + 1) b))

-- a word ends within the line
pub end_within : (b : List ℕ) (at end : ℕ) → end ≡ at + word_length (drop at b) → at ≤ length b → end ≤ length b
end_within b at end e h = omega (arith, word_within (drop at b), length-drop at b)

-- from a position on it ends within the text
pub rest_within : (b : List ℕ) (at n : ℕ) → at ≤ length b → n ≡ word_length (take (length b - at) (drop at b)) → at + n ≤ length b
rest_within b at n h e = omega (arith, word_within (take (length b - at) (drop at b)), length-take (length b - at) (drop at b))
