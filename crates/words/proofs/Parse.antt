-- What a line's next words lead to, from the answers of their reading. Assumes nothing.
use Prim.Native.Nat.{ℕ, ◌^◌, ◌≤◌, ◌<◌}
use mathlib.Core.Path.{◌≡◌, refl, sym, ◌∙◌}
use mathlib.Core.Bool.{true, false}
use mathlib.Core.List.{List, [], ◌∷◌}
use lib.IntN.{ℤ}
use lib.ListN.{length, drop, drop_of_length-le}
use mir.Syntax.{w32}
use mir.Val.{SFits, to_z, of_z}
use mir.ValLaws.{to_z-of_z}
use lib.Dec.{eqb}
use lib.Pointwise.{pointwise}
use Rattle.basis.specs.Choice.{pick}
use Rattle.std.specs.Prelude.{Option, None}
use Rattle.std.specs.Option.{unwrap_or}
use Rattle.words.specs.Split.{other_words, same_text}
use Rattle.words.specs.Field.{Next, FieldAt}
use Rattle.words.specs.SignedField.{NextSigned, SignedFieldAt}
use Rattle.words.specs.Parse.{field, signed_field, at_end}
use Rattle.words.proofs.Split.{words_next}

-- what follows from a word that is the first of a list, and from one that is not
pub same_is : (s t : List ℕ) → pointwise eqb s t ≡ same_text s t
same_is [] [] = refl
same_is [] (y ∷ t) = refl
same_is (x ∷ s) [] = refl
same_is (x ∷ s) (y ∷ t) = rw (same_is s t)

module _ (A : Type 0) (w k : List ℕ) (x y z : A) where
  pub word_same : pointwise eqb w k ≡ true → x ≡ y → x ≡ pick (same_text w k) y z
  word_same h e = e ∙ rw (← same_is w k, h)

  pub word_other : pointwise eqb w k ≡ false → x ≡ z → x ≡ pick (same_text w k) y z
  word_other h e = e ∙ rw (← same_is w k, h)

-- where nothing was read, another is taken
pub none_given : (A : Type 0) (r : Option A) (other : A) → r ≡ None → unwrap_or r other ≡ other
none_given A r other e = rw e

-- what a field leads to, from the answer of its reading and from what the words after it lead to
module _ (A : Type 0) (other : A) (bits : ℕ) (b : List ℕ) (at : ℕ) (f : ℕ → List (List ℕ) → A) (x : A) where
  pub field_read : (n next : ℕ) → Next (2 ^ bits) b at n next → x ≡ f n (other_words (drop next b)) → x ≡ field other bits (other_words (drop at b)) f
  unfolding field
  field_read n next q e = e ∙ sym (rw (q.is, q.value))

  pub field_unread : FieldAt (2 ^ bits) b at None → x ≡ other → x ≡ field other bits (other_words (drop at b)) f
  unfolding field
  field_unread h e = e ∙ sym (go (other_words (drop at b)) refl)
    where
      go : (l : List (List ℕ)) → other_words (drop at b) ≡ l → field other bits l f ≡ other
      go [] i = refl
      go (w ∷ ws) i = rw (h w ws i)

-- and what a signed one does, which the machine keeps as bits
module _ (A : Type 0) (other : A) (b : List ℕ) (at : ℕ) (f : ℤ → List (List ℕ) → A) (x : A) where
  pub signed_read : (z : ℤ) (next : ℕ) → NextSigned b at z next → SFits w32 z → x ≡ f (to_z w32 (of_z w32 z)) (other_words (drop next b))
      → x ≡ signed_field other (other_words (drop at b)) f
  unfolding signed_field
  signed_read z next q s e = e ∙ rw (to_z-of_z w32 z s) (sym (rw (q.is, q.value)))

  pub signed_unread : SignedFieldAt b at None → x ≡ other → x ≡ signed_field other (other_words (drop at b)) f
  unfolding signed_field
  signed_unread h e = e ∙ sym (go (other_words (drop at b)) refl)
    where
      go : (l : List (List ℕ)) → other_words (drop at b) ≡ l → signed_field other l f ≡ other
      go [] i = refl
      go (w ∷ ws) i = rw (h w ws i)

-- the line's end after the last word
module _ (A : Type 0) (other : A) (b : List ℕ) (at : ℕ) (y x : A) where
  pub at_end_lem : length b ≤ at → x ≡ y → x ≡ at_end other (other_words (drop at b)) y
  at_end_lem h e = e ∙ sym (rw (drop_of_length-le b h))

  pub not_end : at < length b → x ≡ other → x ≡ at_end other (other_words (drop at b)) y
  not_end h e = e ∙ sym (rw (words_next b at h))

pub ruleset first_words = (word_same, word_other)

pub ruleset parsing = (none_given, field_read, field_unread, signed_read, signed_unread, at_end_lem, not_end)
