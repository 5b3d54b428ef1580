-- The length of a form. Assumes nothing.
use Prim.Native.Nat.{ℕ, ◌+◌, ◌*◌, ◌≤◌, ◌<◌}
use mathlib.Core.Path.{◌≡◌, ap, ◌∙◌}
use mathlib.Core.List.{[], ◌∷◌}
use native.Mathlib.Numerals.{add-one}
use native.Mathlib.Omega.{arith}
use lib.ListN.{length, get_or, drop, length-append, drop_of_length-le}
use lib.Seq.{drop-cons}
use Rattle.basis.specs.Choice.{bit}
use Rattle.limits.specs.Limits.{place_count}
use Rattle.slots.specs.declared.Slot.{Slot}
use Rattle.slots.specs.Slot.{is_lit}
use Rattle.lit_words.specs.declared.Lit.{Lit}
use Rattle.lit_words.specs.Lit.{ones_of}
use Rattle.channels.specs.Channels.{Channels, unlit_channel, at, lit_places, lit_of}
use Rattle.channels.proofs.LitPlaces.{lit_places_lem}
use Rattle.ring.specs.declared.RingTable.{RingTable}
use Rattle.form.specs.Form.{record_bytes, records_bytes, form_of}
use Rattle.form.specs.Most.{circuit_most}
use Rattle.form.proofs.Length.{form_length}

-- the circuits of the places below p take sum bytes
pub record Measured (chs : Channels) (p sum : ℕ) : Type 0 where
  pub is : length (records_bytes chs) + lit_places (drop p chs) ≡ sum + lit_places chs + length (records_bytes (drop p chs))
  pub small : sum ≤ 2 * circuit_most * p

module _ (chs : Channels) where
  pub measured_none : Measured chs 0 0
  measured_none = record { is = omega arith; small = omega arith }

  module _ (p sum : ℕ) (q : Measured chs p sum) where
    pub measured_next : (n : ℕ) → p < length chs → (n + bit (is_lit (get_or chs p unlit_channel).slot) ≡ length (record_bytes (get_or chs p unlit_channel).slot)) × (n ≤ 2 * circuit_most)
        → Measured chs (p + 1) (sum + n)
    unfolding records_bytes
    measured_next n h e =
        let s : Slot = at chs p in
        let d : drop p chs ≡ record { slot = s } ∷ drop (p + 1) chs = rw (add-one, drop-cons chs p unlit_channel h) in
        record {
          is = omega (arith, q.is, ap lit_places d, ap (λ (x : Channels). length (records_bytes x)) d, length-append (record_bytes s) (records_bytes (drop (p + 1) chs)));
          small = omega (arith, q.small);
        }

    pub measured_all : length chs ≡ place_count → place_count ≤ p → sum + ones_of (lit_of chs) ≡ length (records_bytes chs)
    unfolding records_bytes
    measured_all e h =
        let k : length chs ≤ p = omega arith in
        let z : drop p chs ≡ [] = drop_of_length-le chs k in
        omega (arith, q.is, lit_places_lem chs e, ap lit_places z, ap (λ (x : Channels). length (records_bytes x)) z)

pub ruleset measured = (measured_none, measured_next, measured_all)

-- the form is N, the ports, the map, a byte for each lit place and the circuits
sum : (t : RingTable) (ones n : ℕ) → length t.ports ≡ 64 → t.nodes ≤ 64 → ones ≡ ones_of (lit_of t.channels)
    → n + ones_of (lit_of t.channels) ≡ length (records_bytes t.channels) → 17 + t.nodes + ones + n ≡ length (form_of t)
sum t ones n e h g m = omega (arith, form_length t (omega arith))

pub form_long : (t : RingTable) (lit : Lit) (nodes ones n : ℕ) → nodes ≡ t.nodes → length t.ports ≡ 64 → t.nodes ≤ 64 → lit ≡ lit_of t.channels
    → ones ≡ ones_of lit → n + ones_of (lit_of t.channels) ≡ length (records_bytes t.channels) → 17 + nodes + ones + n ≡ length (form_of t)
form_long t lit nodes ones n k e h g c m = rw k (sum t ones n e h (c ∙ rw g) m)
