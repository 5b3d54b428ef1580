-- A line by its first word. Assumes nothing.
use Prim.Native.Nat.{ℕ, ◌+◌, ◌≤◌, ◌<◌}
use mathlib.Core.Path.{◌≡◌, sym, ◌∙◌}
use mathlib.Core.List.{List}
use native.Mathlib.Omega.{arith}
use lib.ListN.{length, take, drop}
use borrow.Author.Tests.{le-leb, lt-leb}
use Rattle.words.specs.Split.{words_after, other_words, word_length}
use Rattle.words.specs.Parse.{by_word}
use Rattle.words.proofs.Split.{end_within, words_first}
use Rattle.commands.specs.declared.Command.{Command}
use Rattle.commands.specs.declared.Command.TheVariants.{Desk}
use Rattle.commands.specs.Command.{longest_command, kinds, command_words, command_of}

-- a line that is too long is left to the desk, which refuses it
pub line_long : (l : List ℕ) → longest_command < length l → Desk ≡ command_of l
unfolding command_of
line_long l h = rw (lt-leb (length l) longest_command h)

module _ (l : List ℕ) (end : ℕ) (e : end ≡ 0 + word_length (drop 0 l)) where
  -- the first word ends within the line
  pub first_within : end ≤ length l
  first_within = end_within l 0 end e (omega arith)

  -- any other goes by its first word
  pub line_word : (x : Command) → length l ≤ longest_command → x ≡ by_word Desk (take end l) (kinds l (other_words (drop end l))) → x ≡ command_of l
  unfolding command_of command_words words_after
  line_word x h k =
      let j : word_length l ≡ end = omega (arith, e) in
      k ∙ sym (rw (le-leb (length l) longest_command h, words_first l, j))

pub ruleset lines = (line_long, first_within, line_word)
