-- `commands::parse_kind` meets its contract, by the word. Assumes nothing.
use borrow.Author.Rules.{rules}
use Rattle.words.proofs.Parse.{first_words}
use Rattle.commands.proofs.parse_kind.Goals as goal

pub returns : goal.returns
returns c = search (rules, first_words) depth 15
