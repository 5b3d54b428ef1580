-- 01, "Opening a circuit": what each step does. A plan says which places get what, the place taken, the moves in their order and the looks.
-- All listed circuits are taken down before any is set up, so a change says what a place holds at the end. The new
-- circuit is no move. Assumes nothing. What `RingTable::open`, `decide` and `decide_valid` promise.
use Rattle.std.specs.Prelude.{ℕ, List, [], ◌∷◌}
use Rattle.lightpath.specs.declared.Circuit.{Circuit}
use Rattle.slots.specs.Slot.{together}
use Rattle.slots.specs.declared.Slot.TheVariants.{Alone as alone}
use Rattle.channels.specs.declared.Change.{Change}
use Rattle.channels.specs.Change.{◌gets◌}
use Rattle.channels.specs.declared.Standing.{Standing}
use Rattle.moves.specs.declared.Move.{Move}

pub record Plan : Type 0 where
  pub changes : List Change
  pub taken : ℕ
  pub moves : List Move
  pub looks : ℕ

-- the record of a move: number, old place, new place
abbrev pub moves_to : Standing → ℕ → Move
moves_to m p = record { number = m.circuit.number; from = record { 0 = m.place }; to = record { 0 = p } }

-- step 1: the new circuit c joins a
abbrev pub joining : Circuit → Standing → Plan
joining c a = record { changes = (a.place gets together a.circuit c) ∷ []; taken = a.place; moves = []; looks = 0 }

-- step 2: it takes an unlit place
abbrev pub lighting : Circuit → ℕ → Plan
lighting c p = record { changes = (p gets alone c) ∷ []; taken = p; moves = []; looks = 0 }

-- step 3a: a stays, b moves to it, and the new circuit takes the place left
abbrev pub one_move : Circuit → Standing → Standing → ℕ → Plan
one_move c a b k = record {
  changes = (a.place gets together a.circuit b.circuit) ∷ (b.place gets alone c) ∷ [];
  taken = b.place;
  moves = moves_to b a.place ∷ [];
  looks = k;
}

-- step 3b with an old member a and the new circuit: x moves to a's place, a to x's, the new one joins there
abbrev pub two_moves : Circuit → Standing → Standing → ℕ → Plan
two_moves c x a k = record {
  changes = (x.place gets together a.circuit c) ∷ (a.place gets alone x.circuit) ∷ [];
  taken = x.place;
  moves = moves_to x a.place ∷ moves_to a x.place ∷ [];
  looks = k;
}

-- step 3b with old members a then b: x moves to a's place, a and b to x's, and the new circuit takes b's old place
abbrev pub three_moves : Circuit → Standing → Standing → Standing → ℕ → Plan
three_moves c x a b k = record {
  changes = (x.place gets together a.circuit b.circuit) ∷ (a.place gets alone x.circuit) ∷ (b.place gets alone c) ∷ [];
  taken = b.place;
  moves = moves_to x a.place ∷ moves_to a x.place ∷ moves_to b x.place ∷ [];
  looks = k;
}
