-- 01: the number and the values of an answer, and the answer of a call by the reasons that 01 numbers. Assumes nothing.
-- What every call promises of its answer.
use Rattle.std.specs.Prelude.{ℕ, Bool, false, ◌||◌, List, [], ◌∷◌, Ok, Err}
use Rattle.basis.specs.Choice.{pick}
use Rattle.refusals.specs.Refusal.{number_of, Verdict}

pub record Answer : Type 0 where
  pub number : ℕ
  pub values : List ℕ

-- "A refusal carries only its number"
abbrev pub refusal : ℕ → Answer
refusal n = record { number = n; values = [] }

-- an answer that is no refusal has the number 0, and its values
abbrev pub done : List ℕ → Answer
done vs = record { number = 0; values = vs }

-- a making, a closing, a reading and a load report answer with no value
abbrev pub verdict_answer : Verdict → Answer
verdict_answer (Ok _) = done []
verdict_answer (Err r) = refusal (number_of r)

-- a number of document 01, and whether its cause is there
pub record Reason : Type 0 where
  pub number : ℕ
  pub given : Bool

infix 20 ◌when◌
abbrev pub ◌when◌ : ℕ → Bool → Reason
n when g = record { number = n; given = g }

-- whether one of several is there, and the number of the first
abbrev pub some_given : List Reason → Bool
some_given [] = false
some_given (x ∷ xs) = x.given || some_given xs

abbrev pub first_number : List Reason → ℕ
first_number [] = 0
first_number (x ∷ xs) = pick x.given x.number (first_number xs)

-- the answer of a call by its reasons in their order: the refusal of the first that is there; where none is, the values
abbrev pub answer_by : List Reason → List ℕ → Answer
answer_by rs vs = pick (some_given rs) (refusal (first_number rs)) (done vs)
