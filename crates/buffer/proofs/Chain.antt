-- One write after the other: whoever writes the parts that are left has written all. Assumes nothing.
use Prim.Native.Nat.{ℕ}
use mathlib.Core.Path.{◌≡◌, refl, ◌∙◌}
use mathlib.Core.List.{List, [], ◌∷◌, ◌++◌}
use lib.ListN.{length}
use Rattle.buffer.specs.Put.{Room, Put}
use Rattle.buffer.proofs.Put.{put_none, put_put, put_length, room_front, room_rest}

-- a part and those after it
abbrev pub joined : List ℕ → List (List ℕ) → List ℕ
joined v [] = v
joined v (w ∷ ws) = v ++ joined w ws

-- the part v and then the parts ws are still to be written at i of l, of all that was to be written at i0 of l0
pub record Putting (l0 : List ℕ) (i0 : ℕ) (all l : List ℕ) (i : ℕ) (v : List ℕ) (ws : List (List ℕ)) : Type 0 where
  pub left : (l1 : List ℕ) (n : ℕ) → Put l i (joined v ws) l1 n → Put l0 i0 all l1 n
  pub room : Room l i (joined v ws)
  pub long : length l ≡ length l0

-- all parts are left
pub start : {l : List ℕ} {i : ℕ} {all : List ℕ} (v : List ℕ) (ws : List (List ℕ)) → all ≡ joined v ws → Room l i all → Putting l i all l i v ws
start v ws e h = record { left = λ l1 n p. rw e p; room = rw e at h; long = refl }

front : {l : List ℕ} {i : ℕ} {v : List ℕ} (ws : List (List ℕ)) → Room l i (joined v ws) → Room l i v
front [] h = h
front {v = v} (w ∷ ws) h = room_front v (joined w ws) refl h

module _ {l0 : List ℕ} {i0 : ℕ} {all l : List ℕ} {i : ℕ} {v : List ℕ} where
  -- the first part that is left has room
  pub first : {ws : List (List ℕ)} → Putting l0 i0 all l i v ws → Room l i v
  first {ws} q = front ws q.room

  -- the only part that is left is itself some parts, or nothing
  pub again : {w : List ℕ} {ws : List (List ℕ)} → v ≡ joined w ws → Putting l0 i0 all l i v [] → Putting l0 i0 all l i w ws
  again e q = record { left = λ l1 n p. q.left l1 n (rw e p); room = rw e at q.room; long = q.long }

  pub none : v ≡ [] → Putting l0 i0 all l i v [] → Put l0 i0 all l i
  none e q = q.left l i (rw e put_none)

  module _ {l1 : List ℕ} {n : ℕ} (p : Put l i v l1 n) where
    -- the first part is written, and others are left, or none
    pub then : {w : List ℕ} {ws : List (List ℕ)} → Putting l0 i0 all l i v (w ∷ ws) → Putting l0 i0 all l1 n w ws
    then {w} {ws} q =
        record { left = λ l2 m r. q.left l2 m (put_put p r); room = room_rest v (joined w ws) refl q.room p; long = put_length p ∙ q.long }

    pub done : Putting l0 i0 all l i v [] → Put l0 i0 all l1 n
    done q = q.left l1 n p
