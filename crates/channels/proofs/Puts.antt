-- What a list of changes does to a table, whatever the changes are; up to three by value do what their list does. Assumes nothing.
use Prim.Native.Nat.{ℕ, ◌+◌, ◌≤◌, ◌<◌}
use mathlib.Core.Path.{◌≡◌, refl, sym, ◌∙◌}
use mathlib.Core.Logic.{◌≢◌}
use mathlib.Core.List.{List, [], ◌∷◌}
use native.Mathlib.Decide.{ℕ_discrete}
use native.Mathlib.Omega.{arith}
use lib.ListN.{length}
use lib.Seq.{set-set}
use Rattle.basis.specs.Count.{weigh, All}
use Rattle.basis.proofs.Bools.{all_map}
use Rattle.lightpath.specs.declared.Circuit.{Circuit}
use Rattle.slots.specs.Slot.{held}
use Rattle.slots.specs.declared.Slot.{Slot}
use Rattle.slots.specs.declared.Slot.TheVariants.{Unlit as unlit}
use Rattle.channels.specs.Channels.{Channels, at, slots, circuits}
use Rattle.channels.specs.Change.{Change, ◌gets◌, put, puts}
use Rattle.channels.specs.Changes.{one_change, two_changes, in_order}
use Rattle.channels.proofs.Places.{weigh_slots, weigh_place, weigh_nowhere, put_length, put_here, put_there, put_sum}

-- no place is changed twice
abbrev pub Apart : List Change → Type 0
Apart [] = Unit {0}
Apart (ch ∷ chs) = All (λ o. o.place ≢ ch.place) chs × Apart chs

-- the changed places are places of the table
abbrev pub Within : Channels → List Change → Type 0
Within t chs = All (λ ch. ch.place < length t) chs

-- a place is none of the changed ones
abbrev pub Spared : List Change → ℕ → Type 0
Spared chs p = All (λ ch. p ≢ ch.place) chs

-- the weight of what stood at the changed places, and of what they get
abbrev pub taken : (Circuit → ℕ) → Channels → List Change → ℕ
taken w t chs = weigh (λ ch. weigh w (held (at t ch.place))) chs

abbrev pub given : (Circuit → ℕ) → List Change → ℕ
given w chs = weigh (λ ch. weigh w (held ch.slot)) chs

-- there are as many places as before
pub puts_length : (chs : List Change) (t : Channels) → length (puts chs t) ≡ length t
puts_length [] t = refl
puts_length (ch ∷ chs) t = puts_length chs (put ch t) ∙ put_length ch t

-- a change of one place leaves the others' places in the table
within_put : (ch : Change) (t : Channels) (chs : List Change) → Within t chs → Within (put ch t) chs
within_put ch t chs h = all_map _ _ (λ o l. rw (put_length ch t) l) chs h

-- a place that is not changed has its old content
pub puts_there : (chs : List Change) (t : Channels) (q : ℕ) → Spared chs q → at (puts chs t) q ≡ at t q
puts_there [] t q h = refl
puts_there (ch ∷ chs) t q h = puts_there chs (put ch t) q h.1 ∙ put_there ch t q h.0

-- changes of places below a limit leave every place from the limit up as it was
pub puts_above : (m : ℕ) (chs : List Change) (t : Channels) → All (λ ch. ch.place < m) chs → (q : ℕ) → m ≤ q → at (puts chs t) q ≡ at t q
puts_above m chs t low q l = puts_there chs t q (all_map _ _ (λ ch k e. omega arith) chs low)

-- a changed one has its new content
pub puts_here : (chs : List Change) (t : Channels) → Apart chs → Within t chs → All (λ ch. at (puts chs t) ch.place ≡ ch.slot) chs
puts_here [] t a l = tt
puts_here (ch ∷ chs) t a l = (
  puts_there chs (put ch t) ch.place (all_map _ _ (λ o n e. n (sym e)) chs a.0) ∙ put_here ch t l.0,
  puts_here chs (put ch t) a.1 (within_put ch t chs l.1),
)

-- what holds of every content that is not changed and of every new one holds of every place
pub puts_every : (P : ℕ → Slot → Type 0) (chs : List Change) (t : Channels) → Within t chs
    → ((p : ℕ) → p < length t → Spared chs p → P p (at t p)) → All (λ ch. P ch.place ch.slot) chs
    → (p : ℕ) → p < length t → P p (at (puts chs t) p)
puts_every P [] t i h k p l = h p l tt
puts_every P (ch ∷ chs) t i h k p l = puts_every P chs (put ch t) (within_put ch t chs i.1) next k.1 p (rw (put_length ch t) l)
  where
    next : (p : ℕ) → p < length (put ch t) → Spared chs p → P p (at (put ch t) p)
    next p l n = go (ℕ_discrete p ch.place)
      where
        go : Dec (p ≡ ch.place) → P p (at (put ch t) p)
        go (yes e) = rw (e, put_here ch t i.0) k.0
        go (no d) = rw (put_there ch t p d) (h p (rw (put_length ch t) at l) (d, n))

-- a change of another place leaves what stands at these
stood_put : (f : Slot → ℕ) (ch : Change) (t : Channels) (chs : List Change) → All (λ o. o.place ≢ ch.place) chs
    → weigh (λ o. f (at (put ch t) o.place)) chs ≡ weigh (λ o. f (at t o.place)) chs
stood_put f ch t [] h = refl
stood_put f ch t (o ∷ chs) h = rw (put_there ch t o.place h.0, stood_put f ch t chs h.1)

-- an amount for each content: after, with what stood at the changed places, it is what it was before, with what they get
pub puts_sum : (f : Slot → ℕ) (chs : List Change) (t : Channels) → Apart chs → Within t chs
    → weigh f (slots (puts chs t)) + weigh (λ ch. f (at t ch.place)) chs ≡ weigh f (slots t) + weigh (λ ch. f ch.slot) chs
puts_sum f [] t a l = refl
puts_sum f (ch ∷ chs) t a l =
    omega (arith, puts_sum f chs (put ch t) a.1 (within_put ch t chs l.1), stood_put f ch t chs a.0, put_sum ch t f l.0)

-- the same for a weight of circuits
pub puts_weigh : (w : Circuit → ℕ) (chs : List Change) (t : Channels) → Apart chs → Within t chs
    → weigh w (circuits (puts chs t)) + taken w t chs ≡ weigh w (circuits t) + given w chs
puts_weigh w chs t a l = rw (weigh_slots w (slots (puts chs t)), weigh_slots w (slots t)) (puts_sum (λ s. weigh w (held s)) chs t a l)

-- the same places get nothing
abbrev cleared : List Change → List Change
cleared [] = []
cleared (ch ∷ chs) = (ch.place gets unlit) ∷ cleared chs

-- what holds of the places of the one list holds of those of the other
cleared_all : (P : ℕ → Type 0) (chs : List Change) → All (λ ch. P ch.place) chs → All (λ ch. P ch.place) (cleared chs)
cleared_all P [] h = tt
cleared_all P (ch ∷ chs) h = (h.0, cleared_all P chs h.1)

cleared_back : (P : ℕ → Type 0) (chs : List Change) → All (λ ch. P ch.place) (cleared chs) → All (λ ch. P ch.place) chs
cleared_back P [] h = tt
cleared_back P (ch ∷ chs) h = (h.0, cleared_back P chs h.1)

-- they are apart still
cleared_apart : (chs : List Change) → Apart chs → Apart (cleared chs)
cleared_apart [] a = tt
cleared_apart (ch ∷ chs) a = (cleared_all (λ q. q ≢ ch.place) chs a.0, cleared_apart chs a.1)

-- they get nothing, and lose what they did
cleared_given : (w : Circuit → ℕ) (chs : List Change) → given w (cleared chs) ≡ 0
cleared_given w [] = refl
cleared_given w (ch ∷ chs) = omega (arith, cleared_given w chs)

cleared_taken : (w : Circuit → ℕ) (t : Channels) (chs : List Change) → taken w t (cleared chs) ≡ taken w t chs
cleared_taken w t [] = refl
cleared_taken w t (ch ∷ chs) = rw (cleared_taken w t chs)

-- what holds of an unlit place holds of each
cleared_slots : (P : ℕ → Slot → Type 0) (chs : List Change) → ((p : ℕ) → P p unlit) → All (λ ch. P ch.place ch.slot) (cleared chs)
cleared_slots P [] h = tt
cleared_slots P (ch ∷ chs) h = (h ch.place, cleared_slots P chs h)

module _ (w : Circuit → ℕ) (chs : List Change) (t : Channels) (apart : Apart chs) (within : Within t chs) where
  -- the rest of the table, with what stood at the changed places, is the whole
  rest : weigh w (circuits (puts (cleared chs) t)) + taken w t chs ≡ weigh w (circuits t)
  rest =
      omega (
        arith,
        puts_weigh w (cleared chs) t (cleared_apart chs apart) (cleared_all (λ q. q < length t) chs within),
        cleared_given w chs,
        cleared_taken w t chs,
      )

  -- what stood at the changed places is a part of the whole
  pub part : taken w t chs ≤ weigh w (circuits t)
  part = omega (arith, rest)

  -- and so it is with a place that is not changed
  pub part_with : (q : ℕ) → Spared chs q → taken w t chs + weigh w (held (at t q)) ≤ weigh w (circuits t)
  part_with q n =
      let h = rw (puts_there (cleared chs) t q (cleared_all (λ p. q ≢ p) chs n)) at (weigh_place (puts (cleared chs) t) w q) in omega (arith, rest)

  -- it is the whole where the places that are not changed weigh nothing
  pub whole : ((p : ℕ) → p < length t → Spared chs p → weigh w (held (at t p)) ≡ 0) → weigh w (circuits t) ≡ taken w t chs
  whole none = omega (arith, rest, weigh_nowhere (puts (cleared chs) t) w nothing)
    where
      nothing : (p : ℕ) → p < length (puts (cleared chs) t) → weigh w (held (at (puts (cleared chs) t) p)) ≡ 0
      nothing p l =
          puts_every (λ p s. weigh w (held s) ≡ 0) (cleared chs) t (cleared_all (λ q. q < length t) chs within)
          (λ p l n. none p l (cleared_back (λ q. p ≢ q) chs n)) (cleared_slots (λ p s. weigh w (held s) ≡ 0) chs (λ p. refl)) p
          (rw (puts_length (cleared chs) t) at l)

-- a change said again changes nothing
again : (ch : Change) (t : Channels) → put ch (put ch t) ≡ put ch t
again ch t = set-set t ch.place (record { slot = ch.slot }) (record { slot = ch.slot })

-- so one and two by value do what their list does
pub puts_one : (a : Change) (t : Channels) → puts (in_order (one_change a)) t ≡ puts (a ∷ []) t
puts_one a t = again a (put a t) ∙ again a t

pub puts_two : (a b : Change) (t : Channels) → puts (in_order (two_changes a b)) t ≡ puts (a ∷ b ∷ []) t
puts_two a b t = again b (put a t)
