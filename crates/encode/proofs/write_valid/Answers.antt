-- `encode::write_valid` meets its contract. Assumes nothing.
use borrow.Author.Rules.{rules}
use Rattle.encode.proofs.Answers.{answer_rules}
use Rattle.encode.proofs.write_valid.Goals as goal

pub form_length-length-requires : goal.form_length-length-requires
form_length-length-requires c = search (rules, answer_rules)

pub returns-then-out-length : goal.returns-then-out-length
returns-then-out-length c = search (rules, answer_rules)

pub put_form-requires : goal.put_form-requires
put_form-requires c = search (rules, answer_rules)

pub returns : goal.returns
returns c = search (rules, answer_rules)
