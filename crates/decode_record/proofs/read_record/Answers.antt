-- `decode_record::read_record` meets its contract. Assumes nothing.
use Rattle.std.proofs.lemmas.Result.{err_from_is_err_and}
use Rattle.decode_record.proofs.Records.{record_cut, map_bad, record_fault, record_got}
use Rattle.decode_record.proofs.read_record.Goals as goal

pub returns-then-form-at : goal.returns-then-form-at
returns-then-form-at c = record_cut _ _ c.if-form-at.true

pub returns-then-not-map_holds : goal.returns-then-not-map_holds
returns-then-not-map_holds c = map_bad _ _ c.if-form-at.false _ c.map_holds.ensures c.if-not-map_holds.true

pub returns-in_err-first : goal.returns-in_err-first
returns-in_err-first c =
    let p = err_from_is_err_and c.from_residual.result c.from_residual.ensures.1 in
    rw (p.1, p.2) (record_fault _ _ c.if-form-at.false _ c.map_holds.ensures c.if-not-map_holds.false _ _ c.stands-remarked.ensures c.stands-billed.ensures _ c.in_err-first.ensures)

pub read_second-requires : goal.read_second-requires
read_second-requires c = c.in_ok-first.ensures.0

pub returns : goal.returns
returns c =
    record_got _ _ c.if-form-at.false _ c.map_holds.ensures c.if-not-map_holds.false _ _ c.stands-remarked.ensures c.stands-billed.ensures _ _ _ _ _ _
    c.in_ok-first.ensures.1 c.stands.ensures c.stands-2.ensures c.stands-3.ensures c.read_second.ensures
