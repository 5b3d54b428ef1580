-- A line by its first word. Assumes nothing.
use Prim.Native.Nat.{ℕ, ◌+◌, ◌≤◌, ◌<◌}
use mathlib.Core.Path.{◌≡◌, sym, ◌∙◌}
use mathlib.Core.List.{List}
use native.Mathlib.Omega.{arith}
use lib.ListN.{length, take, drop}
use borrow.Author.Tests.{le-leb, lt-leb}
use Rattle.basis.proofs.Arrays.{lent_counted}
use Rattle.words.specs.Split.{words_after, other_words, word_length}
use Rattle.words.specs.Parse.{by_word}
use Rattle.words.proofs.Split.{end_within, words_first}
use Rattle.words.proofs.Parse.{none_given, word_same, word_other}
use Rattle.requests.specs.declared.Line.{Line}
use Rattle.requests.specs.Line.{longest_line, bad, kinds, parse_words, parse_line}

-- a line that is too long is bad
pub line_long : (l : List ℕ) (x : Line) → longest_line < length l → x ≡ bad → x ≡ parse_line l
unfolding parse_line
line_long l x h e = e ∙ sym (rw (lt-leb (length l) longest_line h))

module _ (l : List ℕ) (end : ℕ) (e : end ≡ 0 + word_length (drop 0 l)) where
  -- the first word, as a part of the line, ends where it ends
  pub first_long : end ≡ length (take end l)
  first_long = lent_counted l end (end_within l 0 end e (omega arith))

  -- any other goes by its first word
  pub line_word : (x : Line) → length l ≤ longest_line → x ≡ by_word bad (take end l) (kinds (other_words (drop end l))) → x ≡ parse_line l
  unfolding parse_line parse_words words_after
  line_word x h k =
      let j : word_length l ≡ end = omega (arith, e) in
      k ∙ sym (rw (le-leb (length l) longest_line h, words_first l, j))

pub ruleset lines = (line_long, first_long, line_word, word_same, word_other, none_given)
