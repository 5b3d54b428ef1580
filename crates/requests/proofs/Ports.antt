-- The ports of a ring, one for each word up to the line's end. Assumes nothing.
use mathlib.Core.Path.{◌≡◌, refl, sym, ◌∙◌}
use mathlib.Core.List.{List, [], ◌∷◌, ◌++◌}
use Prim.Native.Nat.{ℕ, suc, ◌+◌, ◌-◌, ◌*◌, ◌^◌, ◌≤◌, ◌<◌}
use native.Mathlib.Omega.{arith}
use lib.ListN.{length, drop, set, replicate, length-append, drop_of_length-le}
use lib.Seq.{set_at, append_snoc}
use Rattle.requests.specs.declared.Request.TheVariants.{Ring}
use Rattle.requests.specs.declared.Line.{Line}
use Rattle.std.specs.Prelude.{None}
use Rattle.words.specs.Split.{other_words}
use Rattle.requests.specs.Line.{longest_line, port_room, bad, ports_after, parse_ring}
use Rattle.words.specs.Field.{Next, FieldAt}
use Rattle.words.proofs.Split.{words_next}
use Rattle.words.proofs.Parse.{field_read}

-- of a ring of n nodes count ports are read, up to position i
pub record Porting (b : List ℕ) (at n : ℕ) (ports : List ℕ) (count i : ℕ) : Type 0 where
  pub ks : List ℕ
  pub is : parse_ring (other_words (drop at b)) ≡ ports_after n ks (other_words (drop i b))
  pub counted : length ks ≡ count
  pub stand : ports ≡ ks ++ replicate (port_room - count) 0
  pub short : length b ≤ longest_line
  pub room : 2 * count ≤ i

-- after the nodes there are none yet
pub ports_start : (b : List ℕ) (at n i : ℕ) → Next (2 ^ 8) b at n i → length b ≤ longest_line → Porting b at n (replicate port_room 0) 0 i
unfolding parse_ring
ports_start b at n i h s =
    record { ks = []; is = sym (field_read Line bad 8 b at (λ n ws. ports_after n [] ws) _ n i h refl); counted = refl; stand = refl; short = s; room = omega arith }

module _ (b : List ℕ) (at n : ℕ) (ports : List ℕ) (count i : ℕ) (q : Porting b at n ports count i) where
  pub ports_end : length b ≤ i → record { request = Ring n count; ports = ports } ≡ parse_ring (other_words (drop at b))
  unfolding ports_after
  ports_end h = sym (q.is ∙ rw (drop_of_length-le b h, q.counted, ← q.stand))

  module _ (h : i < length b) where
    pub ports_room : count < port_room
    ports_room = omega (arith, q.room, q.short)

    pub no_port : (x : Line) → FieldAt (2 ^ 8) b i None → x ≡ bad → x ≡ parse_ring (other_words (drop at b))
    unfolding ports_after
    no_port x k e = e ∙ sym (q.is ∙ rw (words_next b i h, k _ _ (words_next b i h)))

    module _ (p end : ℕ) (here : Next (2 ^ 8) b i p end) where
      pub ports_less : length b - end < length b - i
      ports_less = omega (arith, here.ahead, here.within)

      pub ports_next : Porting b at n (set ports count p) (count + 1) end
      unfolding ports_after
      ports_next =
          let m : port_room - count ≡ suc (port_room - (count + 1)) = omega (arith, ports_room) in
          record {
            ks = q.ks ++ (p ∷ []);
            is = q.is ∙ rw (here.is, here.value);
            counted = omega (arith, length-append q.ks (p ∷ []), q.counted);
            stand = rw (q.stand, m) (set_at q.ks 0 _ p count q.counted ∙ sym (append_snoc q.ks p _));
            short = q.short;
            room = omega (arith, q.room, here.ahead);
          }

pub ruleset porting = (ports_start, ports_end, ports_room, no_port, ports_less, ports_next)
