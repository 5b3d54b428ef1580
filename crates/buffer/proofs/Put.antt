-- Writes, one after another, and a text copied to its place. Assumes nothing.
use mathlib.Core.Path.{◌≡◌, refl, sym, ap, ◌∙◌}
use mathlib.Core.List.{List, [], ◌∷◌, ◌++◌, append_assoc}
use Prim.Native.Nat.{ℕ, suc, ◌+◌, ◌-◌, ◌≤◌}
use native.Mathlib.Nat.{add-zero, add-suc, suc-add}
use native.Mathlib.Omega.{arith}
use lib.ListN.{length, take, drop, set, length-append}
use lib.Seq.{sets, length-sets, drop-drop}
use Rattle.std.proofs.lemmas.List.Edits.{sets-eq}
use borrow.Rule.Slice.PartMut.{put_mid}
use Rattle.buffer.specs.Put.{Put, Room, Printed}

-- two writes one after another are one write of both texts
sets_append : (vs ws l : List ℕ) (i : ℕ) → sets l i (vs ++ ws) ≡ sets (sets l i vs) (i + length vs) ws
sets_append [] ws l i = rw add-zero
sets_append (v ∷ vs) ws l i = sets_append vs ws (set l i v) (suc i) ∙ rw (suc-add, ← add-suc)

-- nothing written, and two writes as one
pub put_none : {l : List ℕ} {i : ℕ} → Put l i [] l i
put_none = record { is = refl; end = omega arith }

pub put_put : {l l1 l2 vs ws : List ℕ} {i j k : ℕ} → Put l i vs l1 j → Put l1 j ws l2 k → Put l i (vs ++ ws) l2 k
put_put {l} {l1} {l2} {vs} {ws} {i} {j} {k} p q =
    record {
      is = q.is ∙ rw (p.is, p.end) (sym (sets_append vs ws l i));
      end = omega (arith, q.end, p.end, length-append vs ws);
    }

-- a write keeps the length
pub put_length : {l vs l' : List ℕ} {i n : ℕ} → Put l i vs l' n → length l' ≡ length l
put_length {l} {vs} {l'} {i} q = ap length q.is ∙ length-sets l i vs

-- room for both is room for the first, and after it for the second
pub room_front : {l us : List ℕ} {i : ℕ} (vs ws : List ℕ) → us ≡ vs ++ ws → Room l i us → Room l i vs
room_front vs ws e h = record { fits = omega (arith, h.fits, ap length e, length-append vs ws) }

pub room_rest : {l l1 us : List ℕ} {i n : ℕ} (vs ws : List ℕ) → us ≡ vs ++ ws → Room l i us → Put l i vs l1 n → Room l1 n ws
room_rest vs ws e h q = record { fits = omega (arith, h.fits, ap length e, length-append vs ws, q.end, put_length q) }

-- a text that takes few bytes takes no more than many
pub wider : {m most : ℕ} {l text l' : List ℕ} {at e : ℕ} → m ≤ most → Printed m l at text l' e → Printed most l at text l' e
wider h p = record { put = p.put; short = omega (arith, p.short) }

-- a text copied to its place
pub copied : (l text vs : List ℕ) (at : ℕ) → Room l at text → vs ≡ text → Put l at text (put_mid at (at + length text - at) l vs) (at + length text)
copied l text vs at h e =
    let k : at + length text - at ≡ length text = omega arith in
    record {
      is = sym (sets-eq text l at h.fits ∙ append_assoc (take at l) text (drop (at + length text) l) ∙ rw (e, k, drop-drop (length text) at l));
      end = refl;
    }
