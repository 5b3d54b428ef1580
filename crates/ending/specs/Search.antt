-- The search that the code makes: by the ends of each circuit, with no closing tried. Assumes nothing. What the functions below `ends_valid`
-- promise; serves proofs inside only.
use Rattle.std.specs.Prelude.{ℕ, min, Bool, ◌&&◌, ◌||◌, List, [], ◌∷◌, eqb, Option, Some, None, Ok, Err}
use Rattle.basis.specs.Choice.{pick}
use Rattle.lightpath.specs.declared.Circuit.{Circuit}
use Rattle.refusals.specs.Refusal.{number_of, Verdict}
use Rattle.ring.specs.declared.RingTable.{RingTable}
use Rattle.ending.specs.Ending.{Ending, ends, nobody, served, not_asked, who_ends}

-- the ending of a circuit gives up the ports that a request lacks: where no transmitter is free it is from the request's source, and where no
-- receiver is free it is to its destination
abbrev pub helps_by : Bool → Bool → Circuit → Circuit → Bool
helps_by sender receiver c x = (sender || eqb x.source c.source) && (receiver || eqb x.destination c.destination)

-- nothing found
abbrev pub none_found : Option ℕ
none_found = None

-- the lower of a number and the one found
abbrev pub lower_of : ℕ → Option ℕ → Option ℕ
lower_of n None = Some n
lower_of n (Some b) = Some (min b n)

-- the one found with a circuit more that passes a test, and with those of a list
abbrev pub with_one : (Circuit → Bool) → Circuit → Option ℕ → Option ℕ
with_one f x b = pick (f x) (lower_of x.number b) b

abbrev pub with_all : (Circuit → Bool) → List Circuit → Option ℕ → Option ℕ
with_all f [] b = b
with_all f (x ∷ xs) b = with_one f x (with_all f xs b)

-- who that is
abbrev pub who_is : Option ℕ → Ending
who_is None = nobody
who_is (Some n) = ends n

-- the answer by the verdict on the request
abbrev pub ending_by : RingTable → Circuit → Verdict → Ending
ending_by t c (Ok _) = served
ending_by t c (Err r) = pick (eqb (number_of r) 13 || eqb (number_of r) 14) (who_ends t c) (not_asked r)
