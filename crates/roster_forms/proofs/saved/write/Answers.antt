-- `roster_forms::write` meets its contract. Assumes nothing.
use borrow.Author.Rules.{rules}
use Rattle.roster_forms.proofs.Forms.{forming, write_refused}
use Rattle.roster_forms.proofs.saved.write.Goals as goal

pub write_valid-requires : goal.write_valid-requires
write_valid-requires c = search (rules, forming)

pub returns-then-not-stands-clause-answer : goal.returns-then-not-stands-clause-answer
returns-then-not-stands-clause-answer c = (write_refused c.args.roster c.args.out.now (search (rules, forming))).0

pub returns-then-not-stands-clause-buffer : goal.returns-then-not-stands-clause-buffer
returns-then-not-stands-clause-buffer c = (write_refused c.args.roster c.args.out.now (search (rules, forming))).1.0
