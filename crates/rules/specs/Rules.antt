-- 01, "The ring": the ring rules, in its order, for a ring of N nodes with the port counts ks and the places t. A place's type holds
-- none, one or two circuits and nothing else, so that it has no unused fields. Assumes nothing. What `ring_rules` promises.
use Rattle.std.specs.Prelude.{ℕ, suc, Bool, true, ◌&&◌, List, [], ◌∷◌, eqb, leb, ltb, length}
use Rattle.basis.specs.Count.{distinct}
use Rattle.basis.specs.Search.{every_below}
use Rattle.limits.specs.Limits.{place_count, port_fields}
use Rattle.lightpath.specs.Place.{direction_of}
use Rattle.lightpath.specs.Circuit.{joins, users, can_share}
use Rattle.lightpath.specs.declared.Circuit.{Circuit}
use Rattle.lightpath.specs.declared.Direction.{Direction}
use Rattle.slots.specs.Slot.{held}
use Rattle.slots.specs.declared.Slot.{Slot}
use Rattle.slots.specs.declared.Slot.TheVariants.{Unlit as unlit, Alone as alone, Shared as shared}
use Rattle.lit_words.specs.Lit.{none_lit_from}
use Rattle.channels.specs.Channels.{Channels, at, lit_at, circuits}
use Rattle.ports.specs.Ports.{limit_of, limits, spare_zero}
use Rattle.ports_used.specs.PortsUsed.{sends, receives}

-- the port fields and places that a table has by its type
abbrev pub sized : List ℕ → Channels → Bool
sized ks t = eqb (length ks) port_fields && eqb (length t) place_count

-- places from m up stay unlit
abbrev pub unlit_from : ℕ → Channels → Bool
unlit_from m t = none_lit_from m (lit_at t)

-- source and destination on the ring and different
abbrev pub ends : ℕ → Slot → Bool
ends N unlit = true
ends N (alone a) = joins N a
ends N (shared a b) = joins N a && joins N b

-- no node sends or receives more than k_i circuits: the nodes from i on
abbrev pub ports_hold : ℕ → List ℕ → List Circuit → Bool
ports_hold i [] cs = true
ports_hold i (k ∷ ks) cs = leb (sends i cs) k && leb (receives i cs) k && ports_hold (suc i) ks cs

-- a sharing rule: on a ring of N nodes, in a direction, which two circuits can share
abbrev pub Sharing : Type 0
Sharing = ℕ → Direction → Circuit → Circuit → Bool

-- lower number first; two only when they are adjacent and can share, by the rule `can`, in the direction of place p
abbrev pub shares_by : Sharing → ℕ → ℕ → Slot → Bool
shares_by can N p unlit = true
shares_by can N p (alone a) = true
shares_by can N p (shared a b) = ltb a.number b.number && can N (direction_of p) a b

-- the ring rules, all of them, in 01's order, with a sharing rule
abbrev pub rules_by : Sharing → ℕ → List ℕ → Channels → Bool
rules_by can N ks t =
    limits N ks && sized ks t && unlit_from (limit_of ks) t
    && every_below place_count (λ p. ends N (at t p))
    && distinct (λ c. c.number) (circuits t)
    && ports_hold 1 ks (circuits t)
    && every_below place_count (λ p. shares_by can N p (at t p))
    && spare_zero N ks

-- what may stand at place p, by `can_share`
abbrev pub shares : ℕ → ℕ → Slot → Bool
shares N p s = shares_by can_share N p s

-- the ring rules
abbrev pub ring_rules : ℕ → List ℕ → Channels → Bool
ring_rules N ks t = rules_by can_share N ks t

-- what place p holds is on the ring of N nodes and may stand there
abbrev pub fits : ℕ → ℕ → Slot → Bool
fits N p s = ends N s && shares N p s

-- a circuit at its place is a lightpath: how many lightpaths of place p go over link l
abbrev pub carried : ℕ → Channels → ℕ → ℕ → ℕ
carried N t p l = users N (direction_of p) l (held (at t p))
