-- A line, run: from what the calls ensured to the definitions. Assumes nothing.
use mathlib.Core.Path.{◌≡◌, refl, sym, ap, ◌∙◌}
use mathlib.Core.Bool.{true, false}
use mathlib.Core.List.{List, ◌++◌}
use Prim.Native.Nat.{ℕ, ◌+◌, ◌≤◌}
use native.Mathlib.Omega.{arith}
use lib.ListN.{length}
use Rattle.basis.proofs.Branch.{pick_false}
use Rattle.limits.specs.Limits.{most_circuits}
use Rattle.lightpath.specs.declared.Circuit.{Circuit}
use Rattle.moves.specs.Records.{listed}
use Rattle.ports.specs.Ports.{wavelengths}
use Rattle.ring.specs.Table.{meets_rules}
use Rattle.ring.specs.Making.{make_of}
use Rattle.ring.specs.Opening.{decide_of}
use Rattle.ring.specs.Closing.{close_of}
use Rattle.ring.specs.declared.RingTable.{RingTable}
use Rattle.ring.specs.declared.Answered.{Answered}
use Rattle.ring.proofs.Making.{make_rules}
use Rattle.roster.specs.declared.Heading.{Heading}
use Rattle.roster.specs.Held.{table_in, HoldsTable}
use Rattle.roster.proofs.Holding.{held_table, held_again, held_long}
use Rattle.roster_open.specs.InPlace.{OpensIn, ClosesIn}
use Rattle.roster_open.specs.declared.OpenedIn.{OpenedIn}
use Rattle.roster_open.specs.declared.ClosedIn.{ClosedIn}
use Rattle.requests.specs.declared.Request.{Request}
use Rattle.requests.specs.declared.Request.TheVariants.{Bad}
use Rattle.requests.specs.declared.Line.{Line}
use Rattle.requests.specs.Line.{parse_line}
use Rattle.buffer.specs.Put.{Printed}
use Rattle.buffer.proofs.Put.{wider}
use Rattle.print.specs.Answers.{line_refused, ring_line, close_line, open_line, move_lines, close_room, ring_room, opening_room}
use Rattle.desk.specs.Desk.{Desk, Ran, desk_with, desk_of, desk_after, Keeps, answer_room, refuse, run_ring, run_open, run_close, run, run_line, CanRun, HasRun}
use Rattle.refusals.specs.declared.Refusal.{Refusal}
use Rattle.std.specs.Prelude.{Option, Some, None, Ok, Err}

-- before the first accepted ring an opening and a closing are refused lines
unready_open : (d : Desk) (c : Circuit) → d.ready ≡ false → run_open d c ≡ refuse d
unfolding run_open
unready_open d c h = sym (pick_false d.ready _ _ _ h refl)

unready_close : (d : Desk) (n : ℕ) → d.ready ≡ false → run_close d n ≡ refuse d
unfolding run_close
unready_close d n h = sym (pick_false d.ready _ _ _ h refl)

-- a table that lists hold is kept
pub keeps_held : (t : RingTable) (h : Heading) (keys rests : List ℕ) → HoldsTable t h keys rests → Keeps (Some h) keys rests
keeps_held t h keys rests H = record { held = λ g e. let i : h ≡ g = cc in rw (← i) (held_again t h keys rests H); blank = λ e. let z : ◌≡◌ {A = ℕ} 0 1 = cc in absurd (omega arith); long_keys = (held_long t h keys rests H).0; long_rests = (held_long t h keys rests H).1 }

-- and is the desk's
pub desk_held : (t : RingTable) (h : Heading) (keys rests : List ℕ) → HoldsTable t h keys rests → desk_of (Some h) keys rests ≡ desk_with t
desk_held t h keys rests H = ap desk_with (held_table t h keys rests H)

-- the desk after a table is accepted
pub accepted_held : (d : Option Heading) (keys rests keys' rests' : List ℕ) (a : Answered) (h : Heading) → a.verdict ≡ Ok tt → HoldsTable a.table h keys' rests'
    → (desk_of (Some h) keys' rests' ≡ desk_after (desk_of d keys rests) a.table a.verdict) × Keeps (Some h) keys' rests'
accepted_held d keys rests keys' rests' a h g H = (desk_held a.table h keys' rests' H ∙ rw g, keeps_held a.table h keys' rests' H)

-- no heading is none
pub no_heading : (d : Option Heading) → ((h : Heading) → d ≡ Some h → ⊥) → d ≡ None
no_heading None n = refl
no_heading (Some h) n = absurd (n h refl)

module _ (d : Option Heading) (keys rests l : List ℕ) (at : ℕ) (s : CanRun d keys rests l at) where
  pub run_room : at + answer_room ≤ length l
  run_room = s.room

  -- the table of an accepted ring is held
  pub run_held : (h : Heading) → d ≡ Some h → HoldsTable (table_in h keys rests) h keys rests
  run_held h e = s.keeps.held h e

  pub run_keeps : Keeps d keys rests
  run_keeps = s.keeps

  pub run_keys : length keys ≡ most_circuits
  run_keys = s.keeps.long_keys

  pub run_rests : length rests ≡ most_circuits
  run_rests = s.keeps.long_rests

  module _ (l' : List ℕ) (r : Ran) (q : (r.desk ≡ d) × Printed answer_room l at line_refused l' r.next) where
    pub refused_line_lem : HasRun (refuse (desk_of d keys rests)) l at keys rests l' r
    refused_line_lem = record { desk = rw q.0; text = q.1; keeps = rw q.0 s.keeps }

    pub refused_open : (c : Circuit) → ((h : Heading) → d ≡ Some h → ⊥) → HasRun (run_open (desk_of d keys rests) c) l at keys rests l' r
    refused_open c h = rw (unready_open (desk_of d keys rests) c (rw (no_heading d h))) refused_line_lem

    pub refused_close : (n : ℕ) → ((h : Heading) → d ≡ Some h → ⊥) → HasRun (run_close (desk_of d keys rests) n) l at keys rests l' r
    refused_close n h = rw (unready_close (desk_of d keys rests) n (rw (no_heading d h))) refused_line_lem

  module _ (keys' rests' l' : List ℕ) (e : ℕ) where
    pub opened : (h : Heading) (c : Circuit) (a : OpenedIn) → d ≡ Some h → OpensIn (decide_of (table_in h keys rests) c 3) keys' rests' a
        → Printed opening_room l at (open_line c.number a.answer ++ move_lines (listed a.moves)) l' e
        → HasRun (run_open (desk_of d keys rests) c) l at keys' rests' l' (record { desk = Some a.heading; next = e })
    unfolding run_open
    opened h c a g k p = record {
      desk = rw g (desk_held _ a.heading keys' rests' k.after);
      text = rw (g, ← k.answer, ← k.moves) p;
      keeps = keeps_held _ a.heading keys' rests' k.after;
    }

    pub closed : (h : Heading) (n : ℕ) (a : ClosedIn) → d ≡ Some h → ClosesIn (close_of (table_in h keys rests) n) keys' rests' a
        → Printed close_room l at (close_line n a.verdict) l' e
        → HasRun (run_close (desk_of d keys rests) n) l at keys' rests' l' (record { desk = Some a.heading; next = e })
    unfolding run_close
    closed h n a g k p = record {
      desk = rw g (desk_held _ a.heading keys' rests' k.after);
      text = rw (g, ← k.verdict) (wider (omega arith) p);
      keeps = keeps_held _ a.heading keys' rests' k.after;
    }

  module _ (l' : List ℕ) (e n w : ℕ) (ks : List ℕ) (a : Answered) (k : a ≡ make_of n ks) (i : w ≡ wavelengths a.table.ports)
      (p : Printed ring_room l at (ring_line n w a.verdict) l' e) where
    pub ring_meets : a.verdict ≡ Ok tt → meets_rules a.table ≡ true
    ring_meets h = rw k (make_rules n ks (rw k at h))

    pub ringed : (keys' rests' : List ℕ) (d' : Option Heading)
        → (desk_of d' keys' rests' ≡ desk_after (desk_of d keys rests) a.table a.verdict) × Keeps d' keys' rests'
        → HasRun (run_ring (desk_of d keys rests) n ks) l at keys' rests' l' (record { desk = d'; next = e })
    unfolding run_ring
    ringed keys' rests' d' h = record { desk = h.0 ∙ rw (← k); text = rw (← k, ← i) (wider (omega arith) p); keeps = h.1 }

    -- a refused ring leaves the desk as it was
    pub not_ringed : (r : Refusal) → a.verdict ≡ Err r → HasRun (run_ring (desk_of d keys rests) n ks) l at keys rests l' (record { desk = d; next = e })
    not_ringed r h = ringed keys rests d (rw h, s.keeps)

pub ruleset running = (run_room, run_held, run_keeps, run_keys, run_rests, refused_line_lem, refused_open, refused_close, opened, closed, ring_meets, ringed)

-- the request that the line was parsed as
pub line_run : (line : List ℕ) (p : Line) (q : Request) (d : Desk) (l : List ℕ) (at : ℕ) (keys rests l' : List ℕ) (r : Ran)
    → p ≡ parse_line line → p.request ≡ q → HasRun (run d q p.ports) l at keys rests l' r → HasRun (run_line d line) l at keys rests l' r
line_run line p q d l at keys rests l' r k i m = rw (← k, i) m

-- a line that asks for nothing is refused
pub bad_run : (d : Option Heading) (keys rests line l : List ℕ) (at : ℕ) (p : Line) (l' : List ℕ) (r : Ran) → CanRun d keys rests l at → p ≡ parse_line line
    → p.request ≡ Bad → (r.desk ≡ d) × Printed answer_room l at line_refused l' r.next → HasRun (run_line (desk_of d keys rests) line) l at keys rests l' r
bad_run d keys rests line l at p l' r s k i q =
    line_run line p Bad (desk_of d keys rests) l at keys rests l' r k i (refused_line_lem d keys rests l at s l' r q)
