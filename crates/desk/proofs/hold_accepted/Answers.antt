-- `desk::hold_accepted` meets its contract. Assumes nothing.
use Rattle.desk.proofs.Running.{accepted_held}
use Rattle.desk.proofs.hold_accepted.Goals as goal

pub returns-in-Ok : goal.returns-in-Ok
returns-in-Ok c = accepted_held c.args.desk c.args.keys.now c.args.rests.now c.hold.new.keys c.hold.new.rests c.args.answered c.hold.result c.in-Ok.is c.hold.ensures
