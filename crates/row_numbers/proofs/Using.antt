-- The ports in use, counted place by place. Assumes nothing.
use Prim.Native.Nat.{ℕ}
use mathlib.Core.Path.{◌≡◌, refl}
use mathlib.Core.List.{List, [], ◌∷◌}
use native.Mathlib.Omega.{arith}
use lib.Dec.{eqb}
use Rattle.std.specs.List.{sum_by}
use Rattle.std.proofs.lemmas.List.Sums.{sum_by-cons}
use Rattle.basis.specs.Choice.{bit}
use Rattle.basis.specs.Count.{tally}
use Rattle.basis.proofs.Weigh.{weigh_append}
use Rattle.lightpath.specs.declared.Circuit.{Circuit}
use Rattle.slots.specs.Slot.{held}
use Rattle.channels.specs.Channels.{Channels, circuits}
use Rattle.ports_used.specs.PortsUsed.{sends, receives}
use Rattle.row_numbers.specs.declared.End.{End}
use Rattle.row_numbers.specs.declared.End.TheVariants.{Source, Destination}
use Rattle.row_numbers.specs.Numbers.{node_at}

-- those of the places add up to those of the table
pub used_sum : (key : Circuit → ℕ) (node : ℕ) (t : Channels) → sum_by (λ ch. tally key node (held ch.slot)) t ≡ tally key node (circuits t)
used_sum key node [] = refl
used_sum key node (ch ∷ t) =
    omega (
      arith,
      sum_by-cons (λ ch. tally key node (held ch.slot)) ch t,
      weigh_append (λ c. bit (eqb (key c) node)) (held ch.slot) (circuits t),
      used_sum key node t,
    )

-- the circuits that a node sends, and those that it receives
module _ (end : End) (node : ℕ) (cs : List Circuit) (n : ℕ) where
  pub used_sends : end ≡ Source → n ≡ sends node cs → n ≡ tally (node_at end) node cs
  used_sends e k = rw e k

  pub used_receives : end ≡ Destination → n ≡ receives node cs → n ≡ tally (node_at end) node cs
  used_receives e k = rw e k

pub ruleset ends = (used_sends, used_receives)
