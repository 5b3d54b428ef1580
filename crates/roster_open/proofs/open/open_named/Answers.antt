-- `roster_open::open_named` meets its contract. Assumes nothing.
use borrow.Author.Rules.{rules}
use Rattle.std.proofs.Common.{refl}
use Rattle.ring.proofs.Deciding.{in_use, used_permits}
use Rattle.roster_open.proofs.Calls.{named_refused}
use Rattle.roster_open.proofs.open.open_named.Goals as goal

pub returns-in-Err : goal.returns-in-Err
returns-in-Err c = search (rules, in_use, named_refused)

pub place_seen-requires : goal.place_seen-requires
place_seen-requires c =
    let seen = c.survey_entries-seen.ensures in (
      c.requires.0,
      used_permits _ _ c.place_limit-limit.result _ seen _ c.in-Ok.ensures c.requires.1 refl,
      c.place_limit-limit.ensures,
      seen,
    )
