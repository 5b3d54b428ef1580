-- 02, E8: which circuit would have to end so that a request can be served. Assumes nothing. What `ends` and `ends_valid` promise.
use Rattle.std.specs.Prelude.{ℕ, Bool, true, false, ◌||◌, List, [], ◌∷◌, eqb, ltb, Err, Ok}
use Rattle.basis.specs.Choice.{pick}
use Rattle.limits.specs.Limits.{least_records}
use Rattle.lightpath.specs.declared.Circuit.{Circuit}
use Rattle.channels.specs.Channels.{circuits}
use Rattle.refusals.specs.Refusal.{number_of}
use Rattle.ring.specs.Opening.{decide_of, Opening}
use Rattle.ring.specs.Closing.{close_of}
use Rattle.ring.specs.declared.RingTable.{RingTable}
pub use Rattle.ending.specs.declared.Ending.{Ending}
pub use Rattle.ending.specs.declared.Ending.TheVariants.{Circuit as ends, Nobody as nobody, Served as served, Refused as not_asked}

-- a request: a circuit's number, source and destination; remark and account play no part
abbrev pub requested : ℕ → ℕ → ℕ → Circuit
requested n s d = record { number = n; source = s; destination = d; remark = 0; account = 0 }

-- what an opening of the request c answers; with three records lent "20 can't arise"
abbrev pub answer_to : RingTable → Circuit → Opening
answer_to t c = (decide_of t c least_records).opened.answer

-- it is served
abbrev pub is_served : Opening → Bool
is_served (Ok _) = true
is_served (Err r) = false

-- it is "refused for want of a port", by 13 or 14
abbrev pub lacks_port : Opening → Bool
lacks_port (Ok _) = false
lacks_port (Err r) = eqb (number_of r) 13 || eqb (number_of r) 14

-- "closing alone lets that request be served": the opening of c on the table without the circuit of number n is served
abbrev pub frees : RingTable → Circuit → ℕ → Bool
frees t c n = is_served (answer_to (close_of t n).table c)

-- those of some circuits whose number passes a test
abbrev pub those : (ℕ → Bool) → List Circuit → List Circuit
those f [] = []
those f (x ∷ xs) = pick (f x.number) (x ∷ those f xs) (those f xs)

-- the lowest number of a circuit and others
abbrev pub lowest : Circuit → List Circuit → ℕ
lowest x [] = x.number
lowest x (y ∷ ys) = pick (ltb (lowest y ys) x.number) (lowest y ys) x.number

-- the lowest-numbered of some circuits, or "that there is none"
abbrev pub lowest_of : List Circuit → Ending
lowest_of [] = nobody
lowest_of (x ∷ xs) = ends (lowest x xs)

-- "the lowest-numbered live circuit whose closing alone lets that request be served"
abbrev pub who_ends : RingTable → Circuit → Ending
who_ends t c = lowest_of (those (frees t c) (circuits t.channels))

-- "served, or refused by another number, gets that as its reply"
abbrev pub reply : Opening → Ending
reply (Ok _) = served
reply (Err r) = not_asked r

-- "For a request that 13 or 14 would meet", that circuit; for any other, what its opening would answer
unfoldable pub ending_of : RingTable → Circuit → Ending
ending_of t c = pick (lacks_port (answer_to t c)) (who_ends t c) (reply (answer_to t c))
