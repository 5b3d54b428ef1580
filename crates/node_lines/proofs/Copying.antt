-- The places copied one after another, each with its circuits to the node. Assumes nothing.
use Prim.Native.Nat.{ℕ, ◌+◌, ◌≤◌, ◌<◌}
use mathlib.Core.Path.{◌≡◌, refl, sym, ◌∙◌}
use mathlib.Core.List.{map-append}
use native.Mathlib.Numerals.{add-one}
use native.Mathlib.Omega.{arith}
use lib.ListN.{length, take, set, length-set}
use lib.Seq.{take_all, take-suc, take-suc-set}
use Rattle.basis.proofs.Arrays.{array_length}
use Rattle.limits.specs.Limits.{place_count}
use Rattle.slots.specs.declared.Slot.{Slot}
use Rattle.channels.specs.Channels.{Channels, at, unlit_channel}
use Rattle.node_lines.specs.Arrivals.{arrivals_at, arrivals_in}

-- the places below p are copied
pub record Copying (node : ℕ) (t l : Channels) (p : ℕ) : Type 0 where
  pub done : take p l ≡ arrivals_in node (take p t)
  pub long : length l ≡ place_count
  pub all : length t ≡ place_count

pub copy_start : (node : ℕ) (t : Channels) → length t ≡ place_count → Copying node t t 0
copy_start node t h = record { done = refl; long = h; all = h }

module _ (node : ℕ) (t l : Channels) (p : ℕ) (q : Copying node t l p) where
  pub copy_end : place_count ≤ p → l ≡ arrivals_in node t
  copy_end h = sym (take_all p l (omega (arith, q.long))) ∙ q.done ∙ rw (take_all p t (omega (arith, q.all)))

  pub copy_next : p < place_count → (s : Slot) → s ≡ arrivals_at node (at t p) → Copying node t (set l p (record { slot = s })) (p + 1)
  copy_next h s e =
      let a : p < length l = omega (arith, q.long) in
      let b : p < length t = omega (arith, q.all) in
      record {
        done = rw (add-one p, take-suc-set l p (record { slot = s }) a, take-suc t p unlit_channel b, map-append, ← q.done, e);
        long = rw length-set q.long;
        all = q.all;
      }

pub ruleset copying = (array_length, copy_start, copy_end, copy_next)
