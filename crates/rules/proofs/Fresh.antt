-- A ring within the limits, with no circuits, meets the ring rules. Assumes nothing.
use Prim.Native.Nat.{ℕ, ◌-◌, ◌≤◌, ◌<◌, zero-le}
use mathlib.Core.Path.{◌≡◌, refl, ap, ◌∙◌}
use mathlib.Core.Bool.{true}
use mathlib.Core.List.{List, ◌++◌}
use native.Mathlib.Omega.{arith}
use lib.ListN.{length, drop, replicate, length-append, length-replicate, get_or-replicate}
use lib.Seq.{drop_at}
use borrow.Author.Tests.{eq-eqb, le-leb}
use Rattle.basis.specs.Count.{total}
use Rattle.basis.proofs.Bools.{and_both}
use Rattle.basis.proofs.Sums.{total_zeros, total_padded}
use Rattle.limits.specs.Limits.{place_count, least_nodes, most_nodes, port_fields, most_ports, most_total}
use Rattle.slots.specs.declared.Slot.TheVariants.{Unlit as unlit}
use Rattle.channels.specs.Channels.{unlit_channel, unlit_channels, at}
use Rattle.ports.specs.Ports.{each_at_most}
use Rattle.ports.proofs.Counts.{each_zeros}
use Rattle.rules.proofs.Rules.{Rules}
use Rattle.rules.proofs.Unlit.{unlit_above_lem}

-- no place is lit
blank_unlit : (p : ℕ) → p < place_count → at unlit_channels p ≡ unlit
blank_unlit p l = ap (λ ch. ch.slot) (get_or-replicate place_count p unlit_channel unlit_channel l)

-- the rules hold
pub fresh_rules : (N : ℕ) (ks : List ℕ) → least_nodes ≤ N → N ≤ most_nodes → length ks ≡ N → each_at_most most_ports ks ≡ true → total ks ≤ most_total
    → Rules N (ks ++ replicate (port_fields - length ks) 0) unlit_channels
fresh_rules N ks three most long each sum = record {
  bounds =
      and_both _ _ (and_both _ _ (and_both _ _ (le-leb least_nodes N three) (le-leb N most_nodes most)) (each_zeros most_ports ks (port_fields - length ks) ∙ each))
      (le-leb (total (ks ++ zeros)) most_total (omega (arith, total_padded ks (port_fields - length ks))));
  sizes = and_both _ _ (eq-eqb (length (ks ++ zeros)) port_fields (omega (arith, length-append ks zeros, length-replicate {A = ℕ} (port_fields - length ks) 0))) refl;
  unused = unlit_above_lem _ unlit_channels (λ p l k. blank_unlit p l);
  places = λ p l. rw (blank_unlit p l);
  numbers = refl;
  ports = λ j l. (zero-le, zero-le);
  spare = eq-eqb (total (drop N (ks ++ zeros))) 0 (ap total (drop_at ks zeros N long) ∙ total_zeros (port_fields - length ks));
}
  where
    zeros : List ℕ
    zeros = replicate (port_fields - length ks) 0
