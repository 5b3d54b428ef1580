-- Bytes taken in, one after another: the cut does not matter. Assumes nothing.
use Prim.Native.Nat.{ℕ, ◌+◌, ◌≤◌, ◌<◌}
use mathlib.Core.Path.{◌≡◌, ◌∙◌}
use mathlib.Core.List.{List, [], ◌∷◌, ◌++◌, append_assoc, append-nil}
use native.Mathlib.Omega.{arith}
use native.Mathlib.Numerals.{add-one}
use lib.ListN.{length, take, drop, get_or, length-append, take-append-drop}
use lib.Seq.{slice, sets-eq, take_at, take-suc, take-take, drop-append-le, length-take-le}
use Rattle.buffer.specs.Put.{Put}
use Rattle.script.specs.Bytes.{Script}
use Rattle.ringplan.specs.Input.{Takes, nothing, ended, more}

-- Law: bytes taken in, and others after them, are taken in as all of them at once, however reads cut them
pub takes_then : {s t u : Script} {a b o p : List ℕ} → Takes s a o t → Takes t b p u → Takes s (a ++ b) (o ++ p) u
takes_then {a = a} {o = o} h nothing = rw (append-nil a, append-nil o) h
takes_then {a = a} {o = o} h (ended {input} {output} free few k) =
    rw (← append_assoc a input (10 ∷ []), ← append_assoc o output _) (ended free few (takes_then h k))
takes_then {a = a} h (more {input} x n k) = rw (← append_assoc a input (x ∷ [])) (more x n (takes_then h k))

-- a part of a chunk, and the byte after it
pub slice_more : (chunk : List ℕ) (f i : ℕ) → f ≤ i → i < length chunk → slice f (i + 1) chunk ≡ slice f i chunk ++ (get_or chunk i 0 ∷ [])
slice_more chunk f i h k =
    let e : f ≤ length (take i chunk) = omega (arith, length-take-le i chunk (omega arith)) in
    rw (add-one i, take-suc chunk i 0 k) (drop-append-le f (take i chunk) (get_or chunk i 0 ∷ []) e)

-- parts of a chunk, one after the other
pub slice_then : (chunk : List ℕ) (i j : ℕ) → i ≤ j → j ≤ length chunk → take i chunk ++ slice i j chunk ≡ take j chunk
slice_then chunk i j h k = rw (← take-take i j chunk h) (take-append-drop i (take j chunk))

-- what stands before a text, and the text that was put after it
pub put_more : (l text l' : List ℕ) (at next : ℕ) → Put l at text l' next → next ≤ length l → take next l' ≡ take at l ++ text
put_more l text l' at next p h =
    let long : length (take at l) ≡ at = length-take-le at l (omega (arith, p.end)) in
    let both : length (take at l ++ text) ≡ next = length-append (take at l) text ∙ omega (arith, long, p.end) in
    rw (p.is, sets-eq text l at (omega (arith, p.end))) (take_at (take at l ++ text) (drop (at + length text) l) next both)
