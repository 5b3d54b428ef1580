-- 01: the number and the values of an opening's answer; and of a tidying's (02, E5). Assumes nothing. What `RingTable::open`, `decide` and
-- `decide_valid`, `tidy`, `decide_tidy` and `decide_tidy_valid` promise.
use Rattle.std.specs.Prelude.{[], ◌∷◌, Err, Ok}
use Rattle.refusals.specs.Refusal.{number_of}
use Rattle.refusals.specs.Answer.{Answer, refusal, done}
use Rattle.ring.specs.Opening.{Opening}
use Rattle.ring.specs.Tidying.{Tidying}

-- "place taken, number of moves, looks"
abbrev pub opening_answer : Opening → Answer
opening_answer (Ok x) = done (x.place.0 ∷ x.moves ∷ x.looks ∷ [])
opening_answer (Err r) = refusal (number_of r)

-- "the number of rounds and of moves"
abbrev pub tidying_answer : Tidying → Answer
tidying_answer (Ok x) = done (x.rounds ∷ x.moves ∷ [])
tidying_answer (Err r) = refusal (number_of r)
