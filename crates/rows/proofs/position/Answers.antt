-- `rows::position` meets its contract: the key at its rank is the one looked for, or there is none. Assumes nothing.
use Rattle.std.proofs.Common.{rules, arith}
use Rattle.entries.specs.Entry.{row_key}
use Rattle.rows.proofs.Found.{position_hit, position_miss}
use Rattle.rows.proofs.position.Goals as goal
use Rattle.rows.proofs.position.Goals.{else-at-keys-via-then-at-keys+else-keys-at, else-at-keys-via-else-at-keys}

pub overflow_add-key : goal.overflow_add-key
unfolding row_key
overflow_add-key c = search rules

pub returns-then-keys-at : goal.returns-then-keys-at
returns-then-keys-at c = (position_hit _ _ _ _ _ c.requires (omega arith) c.rank-at.ensures c.if-at-keys.true c.if-keys-at.true, c.if-at-keys.true)

pub returns : goal.returns
returns c =
    position_miss _ _ _ _ _ c.requires (omega arith) c.rank-at.ensures
    (elim c.else-at-keys.branch [
      | else-at-keys-via-then-at-keys+else-keys-at w ↦ λ l. w.if-keys-at.false
      | else-at-keys-via-else-at-keys w ↦ λ l e. omega (arith, w.if-at-keys.false, l)
    ])
