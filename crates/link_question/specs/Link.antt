-- 01, "Load and link": the one-link question of a ring table: link l, wavelength w and direction d, each a number. It gives a 64-bit
-- number: below 4,294,967,296 a circuit's number, from there on none or a refusal. Assumes nothing. What `link_of` and `ring_link` promise.
use Rattle.std.specs.Prelude.{ℕ, ◌+◌, not, List, [], ◌∷◌, eqb, ltb, Option, Some, None, Ok, Err}
use Rattle.basis.specs.Choice.{pick}
use Rattle.lightpath.specs.Place.{place_of}
use Rattle.lightpath.specs.Circuit.{on_ring, uses}
use Rattle.lightpath.specs.declared.Circuit.{Circuit}
use Rattle.lightpath.specs.declared.Direction.{Direction}
use Rattle.lightpath.specs.declared.Direction.TheVariants.{Clockwise as clockwise, Counterclockwise as counterclockwise}
use Rattle.slots.specs.Slot.{held}
use Rattle.channels.specs.Channels.{at}
use Rattle.ports.specs.Ports.{wavelengths}
use Rattle.refusals.specs.Refusal.{number_of, Cause, ◌if◌, judged, Verdict}
use Rattle.refusals.specs.declared.Refusal.{Refusal}
use Rattle.refusals.specs.declared.Refusal.TheVariants.{OffRing as no_10, NoWavelength as no_16, NoDirection as no_17}
use Rattle.ring.specs.declared.RingTable.{RingTable}

-- 4,294,967,296 for none
abbrev pub no_circuit : ℕ
no_circuit = 4294967296

-- a circuit's number, or that
abbrev pub number_or_none : Option ℕ → ℕ
number_or_none (Some n) = n
number_or_none None = no_circuit

-- that plus the refusal number for a refusal
abbrev pub refusal_of : Refusal → ℕ
refusal_of r = no_circuit + number_of r

-- 0 clockwise, 1 counterclockwise
abbrev pub way : ℕ → Direction
way d = pick (eqb d 0) clockwise counterclockwise

-- of the circuits of a place, lightpaths in direction d, the one that uses link l
unfoldable pub running : ℕ → Direction → ℕ → List Circuit → ℕ
running N d l [] = no_circuit
running N d l (c ∷ cs) = pick (uses N d c l) c.number (running N d l cs)

-- the circuit on link l, on wavelength w in direction d
abbrev pub circuit_on : RingTable → ℕ → ℕ → Direction → ℕ
circuit_on t l w d = running t.nodes d l (held (at t.channels (place_of w d)))

-- link not 1 to N, wavelength not below W, direction neither 0 nor 1: 10, 16, 17
abbrev pub link_causes : RingTable → ℕ → ℕ → ℕ → List Cause
link_causes t l w d =
    (no_10 if not (on_ring t.nodes l)) ∷ (no_16 if not (ltb w (wavelengths t.ports))) ∷ (no_17 if not (ltb d 2)) ∷ []

-- the first of these that holds refuses the question
unfoldable pub link_verdict : RingTable → ℕ → ℕ → ℕ → Verdict
link_verdict t l w d = judged (link_causes t l w d)

-- one that is not refused is answered with the circuit there
abbrev pub link_by : RingTable → ℕ → ℕ → ℕ → Verdict → ℕ
link_by t l w d (Ok _) = circuit_on t l w (way d)
link_by t l w d (Err r) = refusal_of r

unfoldable pub link_of : RingTable → ℕ → ℕ → ℕ → ℕ
link_of t l w d = link_by t l w d (link_verdict t l w d)
