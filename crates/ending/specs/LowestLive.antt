-- What it is to be the lowest-numbered circuit that passes a test. Assumes nothing. States the law of `ending_of`; serves proofs inside only.
use Rattle.std.specs.Prelude.{ℕ, ◌≤◌, ◌≡◌, Bool, true}
use Rattle.basis.specs.Count.{All}
use Rattle.channels.specs.Channels.{Channels, live, circuits}

-- of the places t the number n is live and passes, and no lower number of a circuit does
pub record LowestLive (f : ℕ → Bool) (t : Channels) (n : ℕ) : Type 0 where
  pub alive : live t n ≡ true
  pub passes : f n ≡ true
  pub least : All (λ x. f x.number ≡ true → n ≤ x.number) (circuits t)
