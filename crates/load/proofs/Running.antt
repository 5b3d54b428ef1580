-- The running load of a walk: its steps, and that it is the load of each link. Assumes nothing.
use Prim.Native.Nat.{ℕ, zero, suc, ◌+◌, ◌-◌, ◌≤◌, ◌<◌}
use mathlib.Core.Path.{◌≡◌, refl, sym, ◌∙◌}
use mathlib.Core.Logic.{inl, inr}
use mathlib.Core.Bool.{true}
use mathlib.Core.List.{List, ◌++◌}
use native.Mathlib.Numerals.{add-one}
use native.Mathlib.Omega.{arith}
use lib.ListN.{get_or}
use mir.Syntax.{w8}
use mir.Val.{Fits}
use Rattle.basis.specs.Tallied.{Tallied}
use Rattle.limits.specs.Limits.{most_nodes, most_wavelengths}
use Rattle.lightpath.specs.Circuit.{next}
use Rattle.lightpath.specs.Ends.{start_of, stop_of}
use Rattle.lightpath.specs.declared.Direction.{Direction}
use Rattle.lightpath.specs.declared.Direction.TheVariants.{Clockwise as clockwise, Counterclockwise as counterclockwise}
use Rattle.lightpath.proofs.Onward.{Next, next_cases}
use Rattle.channels.specs.Channels.{Channels}
use Rattle.ring.specs.Table.{meets_rules}
use Rattle.ring.specs.declared.RingTable.{RingTable}
use Rattle.ring.proofs.TableRules.{few_nodes}
use Rattle.load.specs.Load.{lightpaths, link_load, loads}
use Rattle.load.specs.Walk.{node_room, over_last, Joined, running, Walks, pairs_to}
use Rattle.load.proofs.NextLink.{load_last, load_onward, load_added, table_joined}
use Rattle.load.proofs.Counting.{below_length}
use Rattle.load.proofs.Filled.{pairs_same, loads_pairs}

module _ (N : ℕ) (starts stops : List ℕ) (first : ℕ) (k load : ℕ) (h : load ≡ running starts stops first k) where
  -- what is added fits in a byte
  pub added_fits : Walks N starts stops first → k < N → Fits w8 (load + get_or starts (k + 1) 0)
  added_fits w i = record { fits = rw (h, add-one) (w.added k i) }

  -- what is taken off is there
  pub taken_there : Walks N starts stops first → k < N → get_or stops (k + 1) 0 ≤ load + get_or starts (k + 1) 0
  taken_there w i = rw (h, add-one) (w.taken k i)

  -- the load at the next link
  pub running_next : load + get_or starts (k + 1) 0 - get_or stops (k + 1) 0 ≡ running starts stops first (k + 1)
  unfolding running
  running_next = rw (h, add-one)

-- the load at the start
pub running_start : (starts stops : List ℕ) (first : ℕ) → first ≡ running starts stops first 0
unfolding running
running_start starts stops first = refl

pub ruleset walking = (added_fits, taken_there, running_next, running_start)

-- the link at which a walk is after k steps: it begins at link N
abbrev reached : ℕ → ℕ → ℕ
reached N zero = N
reached N (suc k) = suc k

-- it is on the ring, and the next is link k + 1
reached_on : (N k : ℕ) → k < N → (1 ≤ reached N k) × (reached N k ≤ N)
reached_on N zero i = (i, omega arith)
reached_on N (suc k) i = (omega arith, omega arith)

reached_next : (N k : ℕ) → k < N → next N (reached N k) ≡ suc k
reached_next N k i = go k i (next_cases N (reached N k) (reached_on N k i).1)
  where
    go : (k : ℕ) → k < N → Next N (reached N k) → next N (reached N k) ≡ suc k
    go zero i (inl n) = absurd (omega arith)
    go zero i (inr n) = n.1
    go (suc k) i (inl n) = omega arith
    go (suc k) i (inr n) = absurd (omega arith)

-- where what starts and what stops at each node is counted, and what goes over link N
module _ (N : ℕ) (t : Channels) (joined : Joined N t) (few : N ≤ most_nodes) (d : Direction) (starts stops : List ℕ) (first : ℕ)
    (from : Tallied (start_of d) (lightpaths t d) node_room starts) (to : Tallied (stop_of d) (lightpaths t d) node_room stops)
    (last : first ≡ over_last d (lightpaths t d)) where
  -- one step, from a load that is that of its link
  module _ (k : ℕ) (i : k < N) (h : running starts stops first k ≡ link_load N t d (reached N k)) where
    step : link_load N t d (suc k) + get_or stops (suc k) 0 ≡ running starts stops first k + get_or starts (suc k) 0
    step =
        let on = reached_on N k i in
        let e = rw (reached_next N k i) at (load_onward N t joined d (reached N k) on.0 on.1) in
        omega (arith, from.at (suc k) (omega arith), to.at (suc k) (omega arith))

    fits : running starts stops first k + get_or starts (suc k) 0 < 256
    fits =
        let on = reached_on N k i in
        let m = rw (reached_next N k i) at (load_added N t joined d (reached N k) on.0 on.1) in
        omega (arith, from.at (suc k) (omega arith), below_length t d most_wavelengths)

  -- the running load is the load of each link
  running_load : (k : ℕ) → k ≤ N → running starts stops first k ≡ link_load N t d (reached N k)
  unfolding running
  running_load zero i = last ∙ load_last N t joined d
  running_load (suc k) i = omega (arith, step k i (running_load k (omega arith)))

  -- 02, E4: "adding the lightpaths that begin and taking off those that end": a running load is a byte at every node, and what is taken off is
  -- there
  pub load_walks : Walks N starts stops first
  load_walks = record {
    added = λ k i. fits k i (running_load k (omega arith));
    taken = λ k i. omega (arith, step k i (running_load k (omega arith)));
  }

  -- 02, E4: "a running load from link to link", from the lightpaths over link N on, is the load of each link
  pub load_running : (k : ℕ) → k < N → running starts stops first (suc k) ≡ link_load N t d (suc k)
  load_running k i = running_load (suc k) i

-- the lightpaths of a direction of a table that meets the rules, all counted
module _ (t : RingTable) (meets : meets_rules t ≡ true) where
  module _ (d : Direction) (starts stops : List ℕ) (first : ℕ) (from : Tallied (start_of d) (lightpaths t.channels d) node_room starts)
      (to : Tallied (stop_of d) (lightpaths t.channels d) node_room stops) (last : first ≡ over_last d (lightpaths t.channels d)) where
    -- they can be walked
    pub counted_walks : Walks t.nodes starts stops first
    counted_walks = load_walks t.nodes t.channels (table_joined t meets) (few_nodes t meets) d starts stops first from to last

    runs : (k : ℕ) → k < t.nodes → running starts stops first (suc k) ≡ link_load t.nodes t.channels d (suc k)
    runs = load_running t.nodes t.channels (table_joined t meets) (few_nodes t meets) d starts stops first from to last

  -- and those of both directions give the loads
  pub walk_written : (starts stops joins leaves : List ℕ) (first second : ℕ) (after rest : List ℕ)
      → Tallied (start_of clockwise) (lightpaths t.channels clockwise) node_room starts
      → Tallied (stop_of clockwise) (lightpaths t.channels clockwise) node_room stops
      → first ≡ over_last clockwise (lightpaths t.channels clockwise)
      → Tallied (start_of counterclockwise) (lightpaths t.channels counterclockwise) node_room joins
      → Tallied (stop_of counterclockwise) (lightpaths t.channels counterclockwise) node_room leaves
      → second ≡ over_last counterclockwise (lightpaths t.channels counterclockwise)
      → after ≡ pairs_to t.nodes (λ k. running starts stops first k) (λ k. running joins leaves second k) ++ rest
      → after ≡ loads t.nodes t.channels ++ rest
  walk_written starts stops joins leaves first second after rest a b l f g m e =
      let same = pairs_same (λ k. running starts stops first k) (λ k. running joins leaves second k) _ _ t.nodes (λ k i. (
        runs clockwise starts stops first a b l k i,
        runs counterclockwise joins leaves second f g m k i,
      )) in
      rw (same ∙ sym (loads_pairs t.nodes t.nodes t.channels)) at e
