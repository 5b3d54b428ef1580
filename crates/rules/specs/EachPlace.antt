-- The ring rules of the places as the code tests them, place by place. Assumes nothing. Serves proofs inside only.
use Rattle.std.specs.Prelude.{ℕ, Bool}
use Rattle.basis.specs.Search.{every_below}
use Rattle.limits.specs.Limits.{place_count}
use Rattle.channels.specs.Channels.{Channels, at}
use Rattle.rules.specs.Rules.{fits}

-- what every place holds may stand there
unfoldable pub places_hold : ℕ → Channels → Bool
places_hold N t = every_below place_count (λ p. fits N p (at t p))
