-- `encode::put_form` meets its contract. Assumes nothing.
use borrow.Author.Rules.{rules}
use Rattle.encode.proofs.FormParts.{form_rules}
use Rattle.encode.proofs.put_form.Goals as goal

pub put_byte-start-requires : goal.put_byte-start-requires
put_byte-start-requires c = search (rules, form_rules)

pub put_text-map-requires : goal.put_text-map-requires
put_text-map-requires c = search (rules, form_rules)

pub put_map-records-requires : goal.put_map-records-requires
put_map-records-requires c = search (rules, form_rules)

pub put_records-requires : goal.put_records-requires
put_records-requires c = search (rules, form_rules)

pub returns : goal.returns
returns c = search (rules, form_rules)
