-- Sound changes below the limit open a circuit, whatever step made them. Assumes nothing.
use Prim.Native.Nat.{ℕ, ◌≤◌, ◌<◌}
use mathlib.Core.Path.{◌≡◌, ◌∙◌}
use mathlib.Core.Logic.{inl, inr}
use mathlib.Core.Bool.{true}
use mathlib.Core.List.{List, [], ◌∷◌}
use native.Mathlib.Omega.{arith}
use lib.ListN.{length}
use Rattle.basis.specs.Count.{All}
use Rattle.lightpath.specs.declared.Circuit.{Circuit}
use Rattle.channels.specs.Channels.{Channels, at, where_is}
use Rattle.channels.specs.declared.Change.{Change}
use Rattle.channels.specs.Change.{puts}
use Rattle.channels.specs.declared.Standing.{Standing}
use Rattle.channels.proofs.Puts.{puts_above}
use Rattle.moves.specs.Records.{most_moves}
use Rattle.ports.specs.Ports.{limit_of}
use Rattle.rules.specs.Rules.{unlit_from}
use Rattle.rules.specs.Allowable.{Allowable}
use Rattle.rules.proofs.Rules.{Rules}
use Rattle.rules.proofs.Unlit.{unlit_still}
use Rattle.rules.proofs.Allowable.{ports_more, numbers_more}
use Rattle.steps.specs.Kept.{Kept, PlanKeeps}
use Rattle.steps.proofs.Sound.{Shift, shifts, shift_length, Gets, Sound, keeps, placed}
use Rattle.steps.proofs.Carrying.{follows_to}

-- what changes below a limit give is given below it
gets_low : (m : ℕ) (chs : List Change) (p : ℕ) (x : Circuit) → All (λ ch. ch.place < m) chs → Gets chs p x → p < m
gets_low m [] p x low g = absurd g
gets_low m (ch ∷ chs) p x low (inl g) = rw g.0 low.0
gets_low m (ch ∷ chs) p x low (inr g) = gets_low m chs p x low.1 g

-- 01: "those from 2 × W up stay unlit": sound changes below the limit that give c to place p open c at p, which is below it, and every place
-- from it up holds what it held
pub serves : (N : ℕ) (ks : List ℕ) (t : Channels) (c : Circuit) (chs : List Change) (p : ℕ) (stay : List Standing) (go : List Shift)
    → Rules N ks t → Allowable N ks t c → Sound N t [] (c ∷ []) chs stay go → All (λ ch. ch.place < limit_of ks) chs → Gets chs p c
    → length go ≤ most_moves → PlanKeeps N ks t c (puts chs t) p (shifts go)
serves N ks t c chs p stay go rules may s low g few =
    record {
      kept = all;
      placed = there;
      usable = gets_low (limit_of ks) chs p c low g;
      above = above;
      few = omega (arith, shift_length go);
      follows = follows_to N ks t (puts chs t) (shifts go) c p rules all there;
    }
  where
    above : (q : ℕ) → limit_of ks ≤ q → at (puts chs t) q ≡ at t q
    above = puts_above (limit_of ks) chs t low

    unlit : unlit_from (limit_of ks) (puts chs t) ≡ true
    unlit = unlit_still (limit_of ks) t (puts chs t) rules.unused (λ q l e. above q l ∙ e)

    all : Kept N ks t [] (c ∷ []) (puts chs t) (shifts go)
    all = keeps N ks t [] (c ∷ []) chs stay go rules (numbers_more N ks t c rules may) (ports_more N ks t c rules may) s unlit

    there : where_is (puts chs t) c.number ≡ p
    there = placed N ks t [] (c ∷ []) chs stay go rules (numbers_more N ks t c rules may) (ports_more N ks t c rules may) s p c g
