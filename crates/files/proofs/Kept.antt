-- What a writer of a fixed room keeps of the texts that it is handed: as much as fits, one after the other. Assumes nothing.
use Rattle.std.proofs.Common.{arith, ◌≡◌, ◌∙◌, sym, ap, subst, ◌≤◌, ℕ, List, length, take, drop, ◌+◌, ◌-◌, ◌++◌}
use Rattle.std.proofs.lemmas.List.{length-append, length-take, length-take-le, take_min}
use Rattle.std.proofs.lemmas.List.Edits.{sets, sets-eq}
use Rattle.std.proofs.Math.Nat.{le_trans, min-le_left, min-le_right, min_comm, add-sub_of_le}
use Rattle.std.proofs.Math.Seq.{take-append-add, take-append_seam}
use Prim.Native.Nat.{min}
use Rattle.buffer.specs.Put.{Put}

-- putting p after the first n of l, which has room for it
put_after : (l p : List ℕ) (n : ℕ) → n + length p ≤ length l → take (n + length p) (sets l n p) ≡ take n l ++ p
put_after l p n fits = rw (sets-eq p l n fits)
    (subst (λ k. take k (take n l ++ p ++ drop (n + length p) l) ≡ take n l ++ p)
    (length-append (take n l) p ∙ ap (λ k. k + length p) (length-take-le n l (omega arith)))
    (take-append_seam (take n l ++ p) (drop (n + length p) l)))

-- as much of t as there is room for
part : (t : List ℕ) (r f : ℕ) → f ≡ min (length t) r → take f t ≡ take r t
part t r f is = rw (is, min_comm (length t) r) (take_min r t)

-- it is no longer than that
part_short : (t : List ℕ) (r f : ℕ) → f ≡ min (length t) r → length (take f t) ≤ r
part_short t r f is = rw (length-take f t, is) (le_trans (min-le_left (min (length t) r) (length t)) (min-le_right (length t) r))

room_for : {p n m k : ℕ} → p ≤ m - n → n ≤ m → k ≡ m → n + p ≤ k
room_for short within room = omega arith

keeps : (m n f : ℕ) (l t : List ℕ) → length l ≡ m → n ≤ m → f ≡ min (length t) (m - n) → take (n + length (take f t)) (sets l n (take f t)) ≡ take m (take n l ++ t)
keeps m n f l t room within is =
    put_after l (take f t) n (room_for (part_short t (m - n) f is) within room)
    ∙ ap (λ q. take n l ++ q) (part t (m - n) f is)
    ∙ sym (subst (λ k. take k (take n l ++ t) ≡ take n l ++ take (m - n) t)
    (rw (length-take-le n l (omega arith)) (add-sub_of_le within))
    (take-append-add (take n l) t (m - n)))

-- a room of m bytes, the first n of which are kept, keeps of a text as much as fits
pub kept : {m n f next : ℕ} {l t read out before : List ℕ} → length l ≡ m → n ≤ m → f ≡ min (length read) (m - n) → read ≡ t → before ≡ take n l → Put l n (take f read) out next → take next out ≡ take m (before ++ t)
kept {m} {n} {f} {next} {l} {t} {read} room within is same was put =
    rw (put.is, put.end, was, ← same) (keeps m n f l read room within is)
