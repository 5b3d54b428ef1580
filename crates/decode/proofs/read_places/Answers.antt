-- `decode::read_places` meets its contract. Assumes nothing.
use borrow.Author.Rules.{rules}
use Rattle.decode.proofs.Stages.{places_rules}
use Rattle.decode.proofs.read_places.Goals as goal

pub returns-then-form-start-lt-MAP_WIDTH : goal.returns-then-form-start-lt-MAP_WIDTH
returns-then-form-start-lt-MAP_WIDTH c = search (rules, places_rules)

pub returns-then-not-none_lit_from : goal.returns-then-not-none_lit_from
returns-then-not-none_lit_from c = search (rules, places_rules)

pub read_channels-requires : goal.read_channels-requires
read_channels-requires c = search (rules, places_rules)
