-- The next word of a line, and as a number, at a position. Assumes nothing.
use mathlib.Core.Path.{◌≡◌, sym, ◌∙◌}
use mathlib.Core.List.{List, []}
use Prim.Native.Nat.{ℕ, ◌+◌, ◌-◌, ◌≤◌, ◌<◌}
use native.Mathlib.Omega.{arith}
use lib.ListN.{length, take, drop, length-take, length-drop, drop_of_length-le}
use lib.Seq.{drop-drop}
use Rattle.std.specs.Prelude.{Some}
use Rattle.text.specs.Number.{number}
use Rattle.text.proofs.Reading.{number_small, number_some}
use Rattle.words.specs.Split.{other_words, word_length}
use Rattle.words.specs.Field.{NextWord, Next}
use Rattle.words.proofs.Split.{end_within, words_next}

-- at the line's end there is no next word
pub none_left : (b : List ℕ) (at : ℕ) → length b ≤ at → other_words (drop at b) ≡ []
none_left b at h = rw (drop_of_length-le b h)

-- before the line's end there is one, which ends at the position that was found
module _ (b : List ℕ) (at end : ℕ) (h : at < length b) (e : end ≡ (at + 1) + word_length (drop (at + 1) b)) where
  pub word_end : end ≤ length b
  word_end = end_within b (at + 1) end e (omega arith)

  pub word_is : NextWord b at (take (end - (at + 1)) (drop (at + 1) b)) end
  word_is =
      let k : word_length (drop (at + 1) b) ≡ end - (at + 1) = omega (arith, e) in
      let j : at + 1 + (end - (at + 1)) ≡ end = omega (arith, e) in
      record {
        is = words_next b at h ∙ rw (k, drop-drop, j);
        ends = simp (length-take, length-drop) (omega (arith, e, word_end));
        within = word_end;
      }

pub ruleset next = (none_left, word_end, word_is)

-- the next word as a number, where it is one
pub word_number : (b : List ℕ) (at : ℕ) (word : List ℕ) (end : ℕ) → NextWord b at word end → (limit n : ℕ) → Some n ≡ number limit word → Next limit b at n end
word_number b at word end q limit n m =
    record {
      word = word;
      is = q.is;
      value = sym m;
      small = number_small limit word n (sym m);
      ahead = omega (arith, number_some limit word n (sym m), q.ends);
      within = q.within;
    }
