-- A closing on a roster is that on its table. Assumes nothing.
use Prim.Native.Nat.{ℕ}
use mathlib.Core.Path.{◌≡◌, refl}
use mathlib.Core.Bool.{true, false, not}
use mathlib.Core.List.{List, [], ◌∷◌}
use Rattle.channels.specs.Channels.{live}
use Rattle.refusals.specs.declared.Refusal.TheVariants.{BrokenRule}
use Rattle.refusals.specs.Answer.{◌when◌, verdict_answer, answer_by}
use Rattle.ring.specs.Closing.{close_of}
use Rattle.ring.proofs.Numbers.{closes}
use Rattle.roster.specs.declared.Roster.{Roster}
use Rattle.roster.specs.declared.Built.{Built}
use Rattle.roster.specs.Roster.{table_of, stands}
use Rattle.roster.specs.Held.{table_in}
use Rattle.roster_open.specs.InPlace.{ClosesIn}
use Rattle.roster_open.specs.declared.ClosedIn.{ClosedIn}
use Rattle.roster_calls.specs.Calls.{close_roster, close_roster_reasons}
use Rattle.roster_calls.proofs.Standing.{held_arranged, held_stands}
use Rattle.roster_calls.proofs.Lifted.{lifted_numbers, lifted_valid, lifted_refused}
use Rattle.std.specs.Prelude.{Err}

-- the answer in numbers
abbrev Numbered : Roster → ℕ → Built → Type 0
Numbered r n o = verdict_answer o.verdict ≡ answer_by (close_roster_reasons r n) []

module _ (r : Roster) (n : ℕ) where
  -- for every roster
  roster_numbers : Numbered r n (close_roster r n)
  roster_numbers = lifted_numbers r _ _ (λ (b : Built). verdict_answer b.verdict) ((15 when not (live (table_of r).channels n)) ∷ []) [] (closes (table_of r) n (close_of (table_of r) n) refl).1 refl

  -- a closing on a copy of the lists is as defined
  module _ (s : stands r ≡ true) (keys rests : List ℕ) (o : ClosedIn) (does : ClosesIn (close_of (table_in r.heading r.keys r.rests) n) keys rests o) where
    abbrev left : Built
    left = record { roster = record { keys = keys; rests = rests; heading = o.heading }; verdict = o.verdict }

    pub closes_valid : (left ≡ close_roster r n) × (Numbered r n left × (stands left.roster ≡ true))
    unfolding table_of
    closes_valid =
        lifted_valid r _ _ (Numbered r n) roster_numbers left s (λ i. record { roster = held_arranged _ o.heading keys rests does.after i; verdict = does.verdict i })
        (held_stands _ o.heading keys rests does.after).0

  -- a roster that does not stand is met by 22
  abbrev kept : Built
  kept = record { roster = r; verdict = Err BrokenRule }

  pub closes_refused : stands r ≡ false → (kept ≡ close_roster r n) × (Numbered r n kept × (stands r ≡ true → stands r ≡ true))
  closes_refused f = lifted_refused r _ _ (Numbered r n) roster_numbers kept f refl
