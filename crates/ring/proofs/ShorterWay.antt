-- 02, E6, of an opening of a table that meets the ring rules: where no circuit can be joined and a place below 2 × W is unlit, it takes an
-- unlit place and moves nothing; among the unlit places that one uses the fewest links, clockwise when equal, and is the lowest of its
-- direction; where one of the shorter way was unlit, its lightpath uses at most half of the links. Assumes nothing.
use Prim.Native.Nat.{ℕ, ◌/◌, ◌≤◌, ◌<◌}
use mathlib.Core.Path.{◌≡◌, ap, ◌∙◌}
use mathlib.Core.Bool.{true}
use mathlib.Core.List.{[], ◌∷◌}
use borrow.Author.Tests.{lt-ltb, le-ltb}
use Rattle.lightpath.specs.Place.{direction_of}
use Rattle.lightpath.specs.Circuit.{links_over, links_used, shorter_way}
use Rattle.lightpath.specs.declared.Direction.{Direction}
use Rattle.lightpath.specs.declared.Direction.TheVariants.{Clockwise as clockwise}
use Rattle.lightpath.specs.declared.Circuit.{Circuit}
use Rattle.lightpath.proofs.Links.{on_ring_lem}
use Rattle.lightpath.proofs.ShorterWay.{links_counted}
use Rattle.slots.specs.Slot.{is_unlit}
use Rattle.channels.specs.Channels.{at}
use Rattle.ports.specs.Ports.{limit_of}
use Rattle.steps.specs.Steps.{join_place, unlit_place, plan_of}
use Rattle.steps.proofs.ShorterWay.{beside, unlit_found, unlit_half}
use Rattle.refusals.specs.Refusal.{judged}
use Rattle.refusals.specs.Answer.{done}
use Rattle.ring.specs.Table.{RingTable, meets_rules}
use Rattle.ring.specs.Opening.{open_causes, decide_of}
use Rattle.ring.specs.Answer.{opening_answer}
use Rattle.ring.proofs.Deciding.{decided, permits}
use Rattle.std.specs.Prelude.{Ok}

module _ (t : RingTable) (c : Circuit) (n : ℕ) (rules : meets_rules t ≡ true) (served : judged (open_causes t c n) ≡ Ok tt)
    (alone : limit_of t.ports ≤ join_place t.nodes (limit_of t.ports) t.channels c) where
  -- the place of step 2
  abbrev q : ℕ
  q = unlit_place t.nodes (limit_of t.ports) t.channels c

  -- its links are counted
  over : (d : Direction) → links_over t.nodes d c ≡ links_used t.nodes d c
  over d = links_counted t.nodes c (on_ring_lem t.nodes c (permits t c n rules served).ends) d

  -- what is answered where it is found
  lights : q < limit_of t.ports → opening_answer (decide_of t c n).opened.answer ≡ done (q ∷ 0 ∷ 0 ∷ [])
  unfolding plan_of
  lights l =
      ap (λ d. opening_answer d.opened.answer) (decided t c n rules (Ok tt) served)
      ∙ rw (le-ltb (join_place t.nodes (limit_of t.ports) t.channels c) (limit_of t.ports) alone, lt-ltb q (limit_of t.ports) l)

  -- beside an unlit place p below 2 × W
  module _ (p : ℕ) (low : p < limit_of t.ports) (dark : is_unlit (at t.channels p) ≡ true) where
    -- what an opening by step 2 takes
    pub record TakesShorter : Type 0 where
      pub answer : opening_answer (decide_of t c n).opened.answer ≡ done (q ∷ 0 ∷ 0 ∷ [])
      pub unlit : is_unlit (at t.channels q) ≡ true
      pub below : q < limit_of t.ports
      pub fewest : links_over t.nodes (direction_of q) c ≤ links_over t.nodes (direction_of p) c
      pub equal : direction_of p ≡ clockwise → links_over t.nodes clockwise c ≤ links_over t.nodes (direction_of q) c → direction_of q ≡ clockwise
      pub lowest : direction_of p ≡ direction_of q → q ≤ p
      pub half : direction_of p ≡ shorter_way t.nodes c → links_over t.nodes (direction_of q) c ≤ t.nodes / 2

    -- 02, E6: "Step 2 now takes the lowest unlit place below 2 × W in the direction where the circuit uses fewer links, clockwise when equal".
    -- So every opening does that joins none where such a place is unlit, and nothing moves. Beside each such place, the one taken uses no more
    -- links, is clockwise where it uses as many and that one is, and is the lower of one direction. Where a place of the shorter way was
    -- unlit, it uses at most half of the links
    pub takes_shorter : TakesShorter
    takes_shorter =
        let m = limit_of t.ports in
        let b = beside t.nodes m t.channels c p low dark in
        record {
          answer = lights b.found;
          unlit = rw (unlit_found t.nodes m t.channels c b.found);
          below = b.found;
          fewest = rw (over (direction_of q), over (direction_of p)) b.fewest;
          equal = λ e h. b.equal e (rw (over clockwise, over (direction_of q)) at h);
          lowest = b.lowest;
          half = λ s. rw (over (direction_of q)) (unlit_half t.nodes m t.channels c p low dark s);
        }
