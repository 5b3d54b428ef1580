-- The table place by place: its weight is the sum of its places' weights, and a change of one place changes only that. Assumes nothing.
use Prim.Native.Nat.{ℕ, zero, suc, ◌+◌, ◌-◌, ◌*◌, ◌≤◌, ◌<◌, zero-le, suc-le-suc}
use mathlib.Core.Path.{◌≡◌, refl, sym, ap}
use mathlib.Core.Logic.{◌≢◌}
use mathlib.Core.List.{List, [], ◌∷◌}
use native.Mathlib.Nat.{le_of_suc-le-suc, not-suc-le-zero}
use native.Mathlib.Omega.{arith}
use lib.ListN.{length, get_or, set, drop, length-set, length-drop, get_or-eq_default, take}
use lib.Seq.{drop-cons, get_or-set_same, get_or-set_other}
use Rattle.basis.specs.Count.{weigh}
use Rattle.basis.proofs.Weigh.{weigh_append, weigh_set}
use Rattle.lightpath.specs.declared.Circuit.{Circuit}
use Rattle.slots.specs.Slot.{held}
use Rattle.slots.specs.declared.Slot.{Slot}
use Rattle.slots.specs.declared.Slot.TheVariants.{Unlit as unlit}
use Rattle.slots.proofs.Contents.{held_most}
use Rattle.channels.specs.Channels.{Channels, unlit_channel, at, slots, all_held, circuits}
use Rattle.channels.specs.Change.{Change, put}

-- there are as many contents as places
pub slots_length : (t : Channels) → length (slots t) ≡ length t
slots_length [] = refl
slots_length (ch ∷ t) = ap suc (slots_length t)

-- each stands where its place does
pub slots_at : (t : Channels) (p : ℕ) → get_or (slots t) p unlit ≡ at t p
slots_at [] p = refl
slots_at (ch ∷ t) zero = refl
slots_at (ch ∷ t) (suc p) = slots_at t p

-- a store of a place is a store of its content
slots_set : (t : Channels) (p : ℕ) (s : Slot) → slots (set t p (record { slot = s })) ≡ set (slots t) p s
slots_set [] p s = refl
slots_set (ch ∷ t) zero s = refl
slots_set (ch ∷ t) (suc p) s = rw (slots_set t p s)

-- a place that there is not is unlit
pub none_there : (t : Channels) (n p : ℕ) → length t ≡ n → n ≤ p → unlit ≡ at t p
none_there t n p e l = sym (ap (λ ch. ch.slot) (get_or-eq_default t unlit_channel (omega arith)))

-- a weight of circuits is one of contents
pub weigh_slots : (w : Circuit → ℕ) (u : List Slot) → weigh w (all_held u) ≡ weigh (λ s. weigh w (held s)) u
weigh_slots w [] = refl
weigh_slots w (s ∷ u) = omega (arith, weigh_append w (held s) (all_held u), weigh_slots w u)

-- one content weighs no more than all
weigh_one : (w : Circuit → ℕ) (u : List Slot) (p : ℕ) → weigh w (held (get_or u p unlit)) ≤ weigh w (all_held u)
weigh_one w [] p = zero-le
weigh_one w (s ∷ u) zero = omega (arith, weigh_append w (held s) (all_held u))
weigh_one w (s ∷ u) (suc p) = omega (arith, weigh_append w (held s) (all_held u), weigh_one w u p)

-- nor do two
weigh_two : (w : Circuit → ℕ) (u : List Slot) (p q : ℕ) → q < p → weigh w (held (get_or u q unlit)) + weigh w (held (get_or u p unlit)) ≤ weigh w (all_held u)
weigh_two w [] p q l = omega arith
weigh_two w (s ∷ u) zero q l = absurd (not-suc-le-zero l)
weigh_two w (s ∷ u) (suc p) zero l = omega (arith, weigh_append w (held s) (all_held u), weigh_one w u p)
weigh_two w (s ∷ u) (suc p) (suc q) l = omega (arith, weigh_append w (held s) (all_held u), weigh_two w u p q (le_of_suc-le-suc l))

-- the first places weigh no more than all
pub take_held : (w : Circuit → ℕ) (n : ℕ) (u : List Slot) → weigh w (all_held (take n u)) ≤ weigh w (all_held u)
take_held w zero u = zero-le
take_held w (suc n) [] = zero-le
take_held w (suc n) (s ∷ u) = omega (arith, weigh_append w (held s) (all_held (take n u)), weigh_append w (held s) (all_held u), take_held w n u)

-- and all weigh nothing where none weighs anything
weigh_none : (w : Circuit → ℕ) (u : List Slot) → ((p : ℕ) → p < length u → weigh w (held (get_or u p unlit)) ≡ 0) → weigh w (all_held u) ≡ 0
weigh_none w [] h = refl
weigh_none w (s ∷ u) h = omega (arith, weigh_append w (held s) (all_held u), h 0 (omega arith), weigh_none w u (λ p l. h (suc p) (suc-le-suc l)))

-- each content has at most two circuits
weigh_two_each : (w : Circuit → ℕ) → ((c : Circuit) → w c ≤ 1) → (u : List Slot) → weigh w (all_held u) ≤ 2 * length u
weigh_two_each w h [] = zero-le
weigh_two_each w h (s ∷ u) = omega (arith, weigh_append w (held s) (all_held u), held_most w h s, weigh_two_each w h u)

module _ (t : Channels) (w : Circuit → ℕ) where
  -- one place weighs no more than the table
  pub weigh_place : (p : ℕ) → weigh w (held (at t p)) ≤ weigh w (circuits t)
  weigh_place p = rw (← slots_at t p) (weigh_one w (slots t) p)

  -- nor do two
  pub weigh_places : (p q : ℕ) → q < p → weigh w (held (at t q)) + weigh w (held (at t p)) ≤ weigh w (circuits t)
  weigh_places p q l = rw (← slots_at t p, ← slots_at t q) (weigh_two w (slots t) p q l)

  -- and the table weighs nothing where no place does
  pub weigh_nowhere : ((p : ℕ) → p < length t → weigh w (held (at t p)) ≡ 0) → weigh w (circuits t) ≡ 0
  weigh_nowhere h = weigh_none w (slots t) (λ p l. rw (slots_at t p) (h p (omega (arith, slots_length t))))

  -- the places from p on weigh what p does and those above it
  pub weigh_from : (p : ℕ) → p < length t → weigh w (circuits (drop p t)) ≡ weigh w (held (at t p)) + weigh w (circuits (drop (suc p) t))
  weigh_from p l = rw (drop-cons t p unlit_channel l) (weigh_append w (held (at t p)) (circuits (drop (suc p) t)))

  -- and at most twice their number where a circuit weighs at most 1
  pub weigh_most : (p : ℕ) → ((c : Circuit) → w c ≤ 1) → weigh w (circuits (drop p t)) ≤ 2 * (length t - p)
  weigh_most p h = omega (arith, weigh_two_each w h (slots (drop p t)), slots_length (drop p t), length-drop p t)

module _ (ch : Change) (t : Channels) where
  -- there are as many places as before
  pub put_length : length (put ch t) ≡ length t
  put_length = length-set t ch.place (record { slot = ch.slot })

  -- the place has the new content
  pub put_here : ch.place < length t → at (put ch t) ch.place ≡ ch.slot
  put_here l = ap (λ c. c.slot) (get_or-set_same t ch.place (record { slot = ch.slot }) unlit_channel l)

  -- every other has its old one
  pub put_there : (q : ℕ) → q ≢ ch.place → at (put ch t) q ≡ at t q
  put_there q n = ap (λ c. c.slot) (get_or-set_other t ch.place q (record { slot = ch.slot }) unlit_channel n)

  -- an amount for each content: after, with the old content's, it is what it was before, with the new one's
  pub put_sum : (f : Slot → ℕ) → ch.place < length t → weigh f (slots (put ch t)) + f (at t ch.place) ≡ weigh f (slots t) + f ch.slot
  put_sum f l =
      rw (slots_set t ch.place ch.slot, ← slots_at t ch.place)
      (weigh_set f unlit (slots t) ch.place ch.slot (omega (arith, slots_length t)))
