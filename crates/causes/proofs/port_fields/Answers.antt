-- `causes::port_fields` meets its contract. Assumes nothing.
use Rattle.std.proofs.lemmas.List.{drop-replicate}
use Rattle.causes.proofs.port_fields.Goals as goal

pub returns : goal.returns
returns c = rw (c.copy_from_slice.ensures.after, drop-replicate)
