-- 01, "By whom it can be caused", and 02, E3: the refusals and their numbers, and the first of several causes. Assumes nothing.
-- What every call promises of its answer.
use Rattle.std.specs.Prelude.{ℕ, Bool, List, [], ◌∷◌, Result, Ok, Err}
use Rattle.basis.specs.Choice.{pick}
pub use Rattle.refusals.specs.declared.Refusal.{Refusal}
pub use Rattle.refusals.specs.declared.Refusal.TheVariants.{NodeCount, PortCount, PortSum, OffRing, SameNode, NumberLive, NoTransmitter, NoReceiver, NotLive, NoWavelength, NoDirection, ShortList, ShortBuffer, BrokenRule, CutShort, BadField, TrailingBytes, BrokenForm, NoSpacing, NoStart, OffPlan}

-- whether a request goes ahead, or why it is refused
abbrev pub Verdict : Type 0
Verdict = Result (Unit {0}) Refusal

abbrev pub number_of : Refusal → ℕ
-- the ring planner: N outside 3 to 64, or a port list not N long; some k_i above 64; K above 192
number_of NodeCount = 1
number_of PortCount = 2
number_of PortSum = 3
-- the order desk: node or link not 1 to N; source equals destination; number live already; no free transmitter at the source; no free
-- receiver at the destination; number to close isn't live; wavelength not below W (02, E3: of a plan, above 63); direction neither 0 nor 1
number_of OffRing = 10
number_of SameNode = 11
number_of NumberLive = 12
number_of NoTransmitter = 13
number_of NoReceiver = 14
number_of NotLive = 15
number_of NoWavelength = 16
number_of NoDirection = 17
-- the host program: move list under three records; output buffer shorter than the form or than 2 × N; the table breaks a ring rule
number_of ShortList = 20
number_of ShortBuffer = 21
number_of BrokenRule = 22
-- the sender of a saved form, beside 1 to 3: a field ends early; a map bit at 2 × W or above, a field map bit 5 to 7 set, bit 2 or 4 without
-- bit 1, or a written remark or account of 0 (02, E2); bytes after the last record; a ring rule broken
number_of CutShort = 30
number_of BadField = 31
number_of TrailingBytes = 32
number_of BrokenForm = 33
-- field staff (02, E3): no spacing of the grid; starting n not −200 to 200; no wavelength of the plan there
number_of NoSpacing = 41
number_of NoStart = 42
number_of OffPlan = 43

-- a refusal, if a test holds
pub record Cause : Type 0 where
  pub refusal : Refusal
  pub holds : Bool

infix 20 ◌if◌
abbrev pub ◌if◌ : Refusal → Bool → Cause
r if h = record { refusal = r; holds = h }

-- the first cause that holds
abbrev pub judged : List Cause → Verdict
judged [] = Ok tt
judged (x ∷ xs) = pick x.holds (Err x.refusal) (judged xs)
