-- `decode::read_channels` meets its contract. Assumes nothing.
use Rattle.std.proofs.lemmas.Result.{err_from_is_err_and}
use Rattle.decode.proofs.Stages.{records_fault, trailing, all_read}
use Rattle.decode.proofs.read_channels.Goals as goal

pub returns-in_err-channels : goal.returns-in_err-channels
returns-in_err-channels c =
    let p = err_from_is_err_and c.from_residual.result c.from_residual.ensures.1 in
    rw (p.1, p.2) (records_fault _ _ _ c.requires _ c.in_err-channels.ensures)

pub returns-then-at-form : goal.returns-then-at-form
returns-then-at-form c = trailing _ _ _ c.requires _ _ c.in_ok-channels.ensures c.if-at-form.true

pub returns : goal.returns
returns c = all_read _ _ _ c.requires _ _ c.in_ok-channels.ensures c.if-at-form.false _ c.checked.ensures
