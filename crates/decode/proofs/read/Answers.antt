-- `decode::read` meets its contract. Assumes nothing.
use Rattle.decode.proofs.Stages.{read_says}
use Rattle.decode.proofs.read.Goals as goal

pub returns-in-Ok : goal.returns-in-Ok
returns-in-Ok c =
    let h = read_says _ c.type_inv.form _ c.in-Ok.ensures in
    record { answer = h.0; numbers = h.1.0; back = h.1.1 }

pub returns-in-Err : goal.returns-in-Err
returns-in-Err c =
    let h = read_says _ c.type_inv.form _ c.in-Err.ensures in
    rw c.blank.ensures (record { answer = h.0; numbers = h.1.0; back = h.1.1 })
