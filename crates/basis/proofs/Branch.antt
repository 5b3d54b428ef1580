-- Laws for `search (rules, branch)`: a definition by tests, from the branches that the code took. Assumes nothing.
use mathlib.Core.Path.{◌≡◌, sym, ap, ◌∙◌}
use mathlib.Core.Bool.{Bool, true, false, ◌&&◌, ◌||◌, not}
use borrow.Author.Tests.{lt-ltb, le-ltb, le-leb, lt-leb, eq-eqb, ne_eqb, not-true, not-false}
use Rattle.basis.specs.Choice.{pick}

-- the test of a choice passes, and the answer is its first
pub pick_true : {A : Type 0} (b : Bool) (x y r : A) → b ≡ true → r ≡ x → r ≡ pick b x y
pick_true b x y r e h = rw e h

-- or it fails, and the answer is its second
pub pick_false : {A : Type 0} (b : Bool) (x y r : A) → b ≡ false → r ≡ y → r ≡ pick b x y
pick_false b x y r e h = rw e h

-- of two tests that must both pass the first does, and the answer is the second
pub and_true : (a b r : Bool) → a ≡ true → r ≡ b → r ≡ (a && b)
and_true a b r e h = rw e h

-- or the first fails, and so does the answer
pub and_stop : (a b r : Bool) → a ≡ false → r ≡ false → r ≡ (a && b)
and_stop a b r e h = rw e h

-- of two tests of which one must pass the first does, and so does the answer
pub or_stop : (a b r : Bool) → a ≡ true → r ≡ true → r ≡ (a || b)
or_stop a b r e h = rw e h

-- or the first fails, and the answer is the second
pub or_next : (a b r : Bool) → a ≡ false → r ≡ b → r ≡ (a || b)
or_next a b r e h = rw e h

-- of two tests of which neither may pass the first does, and the answer is no
pub nor_stop : (a b r : Bool) → a ≡ true → r ≡ false → r ≡ not (a || b)
nor_stop a b r e h = rw e h

-- or the first fails, and the answer is that the second does
pub nor_next : (a b r : Bool) → a ≡ false → r ≡ not b → r ≡ not (a || b)
nor_next a b r e h = rw e h

-- a test that a call made
pub said : (r b t : Bool) → r ≡ b → r ≡ t → b ≡ t
said r b t e h = sym e ∙ h

-- and one that it made, the other way
pub not_said : (r b : Bool) → r ≡ b → not r ≡ not b
not_said r b e = ap not e

pub ruleset branch =
    (pick_true, pick_false, and_true, and_stop, or_stop, or_next, lt-ltb, le-ltb, le-leb, lt-leb, eq-eqb, ne_eqb, said, not-true, not-false)
