-- 01, "The ring": circuits on a ring of N nodes, their hops and links, and which two can share. Assumes nothing.
-- What the calls on circuits promise, and every promise means by these words.
use Rattle.std.specs.Prelude.{ℕ, suc, ◌+◌, ◌-◌, ◌%◌, Bool, ◌&&◌, ◌||◌, not, List, eqb, leb, ltb}
use Rattle.basis.specs.Choice.{pick, bit}
use Rattle.basis.specs.Count.{weigh, count_below}
use Rattle.lightpath.specs.Place.{Direction, clockwise, counterclockwise}
pub use Rattle.lightpath.specs.declared.Circuit.{Circuit}

-- all fields zero
abbrev pub blank_circuit : Circuit
blank_circuit = record { number = 0; source = 0; destination = 0; remark = 0; account = 0 }

-- a node is on the ring when it is 1 to N
abbrev pub on_ring : ℕ → ℕ → Bool
on_ring N i = leb 1 i && leb i N

-- the next node clockwise after node i, 1 after N; link i joins the two, and the next link clockwise has the number of the node between
abbrev pub next : ℕ → ℕ → ℕ
next N i = pick (ltb i N) (i + 1) 1

-- source and destination are on the ring and different
abbrev pub joins : ℕ → Circuit → Bool
joins N c = on_ring N c.source && on_ring N c.destination && not (eqb c.source c.destination)

-- the number of links clockwise from node s to node x: (x − s) modulo N
unfoldable pub ahead : ℕ → ℕ → ℕ → ℕ
ahead N s x = (x + N - s) % N

-- its hops are (destination − source) modulo N, from 1 to N − 1
abbrev pub hops : ℕ → Circuit → ℕ
hops N c = ahead N c.source c.destination

-- link i joins node i to the next clockwise, link N joins N to 1. Clockwise a circuit uses as many links as hops from its source on;
-- counterclockwise it uses the others
abbrev pub uses : ℕ → Direction → Circuit → ℕ → Bool
uses N clockwise c l = ltb (ahead N c.source l) (hops N c)
uses N counterclockwise c l = not (ltb (ahead N c.source l) (hops N c))

-- how many of the links 1 to N its lightpath of direction d is over
abbrev pub links_over : ℕ → Direction → Circuit → ℕ
links_over N d c = count_below N (λ i. uses N d c (suc i))

-- how many links it uses: clockwise as many as hops, counterclockwise the others
abbrev pub links_used : ℕ → Direction → Circuit → ℕ
links_used N clockwise c = hops N c
links_used N counterclockwise c = N - hops N c

-- the direction where the circuit uses fewer links, clockwise when equal (02, E6): whether it is clockwise, and it
abbrev pub short_clockwise : ℕ → Circuit → Bool
short_clockwise N c = leb (links_used N clockwise c) (links_used N counterclockwise c)

abbrev pub shorter_way : ℕ → Circuit → Direction
shorter_way N c = pick (short_clockwise N c) clockwise counterclockwise

-- how many of some lightpaths of direction d use link l
unfoldable pub users : ℕ → Direction → ℕ → List Circuit → ℕ
users N d l cs = weigh (λ c. bit (uses N d c l)) cs

-- two circuits are adjacent when the destination of one is the source of the other
abbrev pub adjacent : Circuit → Circuit → Bool
adjacent a b = eqb a.destination b.source || eqb b.destination a.source

-- an adjacent pair can share clockwise when their hops total at most N, counterclockwise when they total at least N (Lemma 1). An adjacent
-- pair whose hops total N, which is a circuit and its return, can share in both directions (02, E1)
abbrev pub can_share : ℕ → Direction → Circuit → Circuit → Bool
can_share N clockwise a b = adjacent a b && leb (hops N a + hops N b) N
can_share N counterclockwise a b = adjacent a b && leb N (hops N a + hops N b)

-- the direction in which an adjacent pair can share, clockwise if it can in both
abbrev pub share_direction : ℕ → Circuit → Circuit → Direction
share_direction N a b = pick (can_share N clockwise a b) clockwise counterclockwise
