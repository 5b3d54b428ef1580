-- `saved_forms::read_word` meets its contract. Assumes nothing.
use borrow.Author.Rules.{rules}
use Rattle.saved_forms.proofs.Forms.{forms}
use Rattle.saved_forms.proofs.read_word.Goals as goal

pub returns-then-eq : goal.returns-then-eq
returns-then-eq c = search (rules, forms)

pub read_hex-requires : goal.read_hex-requires
read_hex-requires c = search (rules, forms)

pub shape_of-form : goal.shape_of-form
shape_of-form c = search (rules, forms)

pub returns : goal.returns
returns c = search (rules, forms)
