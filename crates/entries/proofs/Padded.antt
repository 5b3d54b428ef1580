-- A list in room, and what the calls on lists in use make of it. Assumes nothing.
use Prim.Native.Nat.{ℕ, suc, ◌-◌, ◌≤◌, ◌<◌}
use mathlib.Core.Path.{◌≡◌, ◌∙◌}
use mathlib.Core.List.{List, ◌∷◌, ◌++◌, append_assoc}
use native.Mathlib.Numerals.{add-one}
use native.Mathlib.Omega.{arith}
use lib.ListN.{length, get_or, take, drop, set, replicate, length-append, length-drop, length-set, length-replicate, get_or-append}
use lib.Seq.{length-take-le, take-append_seam, take-append-le, drop-append_seam, drop-append-add, set-append_left}
use Rattle.entries.specs.Lists.{padded, put_in, take_out}

-- the list is the first of it
pub take_padded : (room : ℕ) (l : List ℕ) → take (length l) (padded room l) ≡ l
take_padded room l = take-append_seam l _

-- a list that is in the room takes it all
pub length_padded : (room : ℕ) (l : List ℕ) → length l ≤ room → length (padded room l) ≡ room
length_padded room l h = simp (length-append, length-replicate) (omega arith)

-- each number stands where it did
pub get_padded : (room i : ℕ) (l : List ℕ) → i < length l → get_or (padded room l) i 0 ≡ get_or l i 0
get_padded room i l h = get_or-append l _ 0 i h

-- and a store is one in the list
pub set_padded : (room i x : ℕ) (l : List ℕ) → i < length l → set (padded room l) i x ≡ padded room (set l i x)
set_padded room i x l h = set-append_left l _ i x h ∙ rw length-set

-- after the list and one more, the room is one less
drop_padded : (room : ℕ) (l : List ℕ) → length l < room → drop (suc (length l)) (padded room l) ≡ replicate (room - suc (length l)) 0
drop_padded room l h =
    let m : room - length l ≡ suc (room - suc (length l)) = omega arith in
    rw m (rw add-one at (drop-append-add l (replicate (suc (room - suc (length l))) 0) 1))

-- a number put in
pub put_in_padded : (room i x : ℕ) (l : List ℕ) → i ≤ length l → length l < room
    → put_in i (length l) x (padded room l) ≡ padded room (take i l ++ (x ∷ drop i l))
unfolding put_in
put_in_padded room i x l h k =
    let long : length (take i l ++ (x ∷ drop i l)) ≡ suc (length l) = simp (length-append, length-drop) (omega (arith, length-take-le i l h)) in
    simp (take_padded, take-append-le, drop_padded, long, append_assoc)

-- a number taken out
pub take_out_padded : (room i : ℕ) (l : List ℕ) → i < length l → length l ≤ room
    → take_out i (length l) (padded room l) ≡ padded room (take i l ++ drop (suc i) l)
unfolding take_out
take_out_padded room i l h k =
    let j : i ≤ length l = omega arith in
    let long : length (take i l ++ drop (suc i) l) ≡ length l - 1 = simp (length-append, length-drop) (omega (arith, length-take-le i l j)) in
    let m : room - (length l - 1) ≡ suc (room - length l) = omega arith in
    simp (take_padded, drop-append_seam, take-append-le, long, m, append_assoc)
