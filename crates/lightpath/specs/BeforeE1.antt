-- 01, "The ring": which two circuits could share before document 02's request E1. Assumes nothing. What the law that tables saved before
-- remain good means by "before".
use Rattle.std.specs.Prelude.{ℕ, ◌+◌, Bool, ◌&&◌, leb, ltb}
use Rattle.lightpath.specs.Place.{Direction, clockwise, counterclockwise}
use Rattle.lightpath.specs.Circuit.{Circuit, hops, adjacent}

-- an adjacent pair can share clockwise when their hops total at most N, otherwise counterclockwise (Lemma 1; a total of exactly N counts
-- as clockwise only)
abbrev pub can_share_before_e1 : ℕ → Direction → Circuit → Circuit → Bool
can_share_before_e1 N clockwise a b = adjacent a b && leb (hops N a + hops N b) N
can_share_before_e1 N counterclockwise a b = adjacent a b && ltb N (hops N a + hops N b)
