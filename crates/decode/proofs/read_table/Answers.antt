-- `decode::read_table` meets its contract. Assumes nothing.
use Rattle.std.proofs.lemmas.Result.{err_from_is_err_and}
use Rattle.decode.proofs.Stages.{ring_refused, ring_granted}
use Rattle.decode.proofs.read_table.Goals as goal

pub returns-in_err-ring : goal.returns-in_err-ring
returns-in_err-ring c =
    let p = err_from_is_err_and c.from_residual.result c.from_residual.ensures.1 in
    rw (p.1, p.2) (ring_refused _ _ c.in_err-ring.ensures)

pub read_places-requires : goal.read_places-requires
read_places-requires c = ring_granted _ _ c.in_ok-ring.ensures
