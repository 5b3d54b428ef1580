-- Bytes taken in, one after another. Assumes nothing.
use Prim.Native.Nat.{ℕ, ◌+◌, ◌*◌, ◌≤◌, ◌<◌}
use mathlib.Core.Path.{◌≡◌, refl, sym, ◌∙◌}
use mathlib.Core.List.{List, [], ◌∷◌, ◌++◌, append-nil}
use native.Mathlib.Omega.{arith}
use native.Mathlib.Numerals.{add-one}
use lib.ListN.{length, take, get_or, set, length-append, length-set}
use lib.Seq.{take-suc-set, take_all, take_at}
use borrow.Author.Tests.{ne_eqb}
use Rattle.basis.proofs.Arrays.{lent_within, lent_counted}
use Rattle.buffer.proofs.Put.{put_none, put_put, put_length}
use Rattle.buffer.specs.Put.{Printed}
use Rattle.script.specs.Bytes.{Script, Session, Fed, after, texts, most_held, start_session, script_of, ValidSession, Took, Finished}
use Rattle.script.proofs.Cuts.{after_more, texts_more}
use Rattle.desk.specs.Desk.{Desk, desk_of, Keeps, run_line, answer_room, CanRun, HasRun}
use Rattle.std.specs.Prelude.{Option}
use Rattle.roster.specs.declared.Heading.{Heading}
use Rattle.desk.specs.declared.Ran.{Ran}

-- before the first byte no ring was accepted
pub start_valid : (s : Session) → s ≡ start_session → ValidSession s
start_valid s e =
    rw e (record { held = omega arith; desk = record { held = λ h e. let z : ◌≡◌ {A = ℕ} 0 1 = cc in absurd (omega arith); blank = λ h. (refl, refl); long_keys = refl; long_rests = refl } })

-- the script of a desk and of the first bytes of a line
abbrev pub script_at : Desk → List ℕ → ℕ → Script
script_at d line held = record { desk = d; held = take held line }

-- of the chunk the first i bytes are taken in, and what they print stands in the lent bytes up to position at
pub record Feeding (s : Script) (chunk l0 keys rests : List ℕ) (d : Option Heading) (line : List ℕ) (held : ℕ) (l : List ℕ) (at i : ℕ) : Type 0 where
  pub state : script_at (desk_of d keys rests) line held ≡ after s (take i chunk)
  pub text : Printed (answer_room * i) l0 0 (texts s (take i chunk)) l at
  pub within : i ≤ length chunk
  pub width : length line ≡ most_held
  pub few : held ≤ most_held
  pub keeps : Keeps d keys rests
  pub space : answer_room * length chunk ≤ length l0

pub feed_none : (s : Session) (chunk l0 : List ℕ) → ValidSession s → length s.line ≡ most_held → answer_room * length chunk ≤ length l0
    → Feeding (script_of s) chunk l0 s.keys s.rests s.desk s.line s.held l0 0 0
unfolding after texts
feed_none s chunk l0 f w h =
    record { state = refl; text = record { put = put_none; short = omega arith }; within = omega arith; width = w; few = f.held; keeps = f.desk; space = h }

module _ (s : Script) (chunk l0 keys rests : List ℕ) (d : Option Heading) (line : List ℕ) (held : ℕ) (l : List ℕ) (at i : ℕ)
    (q : Feeding s chunk l0 keys rests d line held l at i) where
  pub feed_few : held ≤ most_held
  feed_few = q.few

  pub feed_long : length l ≡ length l0
  feed_long = put_length q.text.put

  module _ (h : i < length chunk) where
    pub feed_runs : CanRun d keys rests l at
    feed_runs = record { keeps = q.keeps; room = omega (arith, q.text.short, q.space, put_length q.text.put) }

    -- a line end
    pub feed_line : (keys' rests' l1 : List ℕ) (r : Ran) → get_or chunk i 0 ≡ 10 → HasRun (run_line (desk_of d keys rests) (take held line)) l at keys' rests' l1 r
        → Feeding s chunk l0 keys' rests' r.desk line 0 l1 r.next (i + 1)
    feed_line keys' rests' l1 r e m =
        record {
          state = sym (after_more s chunk i h ∙ rw (← q.state, e, m.desk));
          text =
              record {
                put = rw (texts_more s chunk i h, ← q.state, e) (put_put q.text.put m.text.put);
                short = omega (arith, q.text.short, m.text.short);
              };
          within = omega arith;
          width = q.width;
          few = omega arith;
          keeps = m.keeps;
          space = q.space;
        }

    -- another byte, with which the line held is as given
    other : (line' : List ℕ) (held' : ℕ) → (get_or chunk i 0 ≡ 10 → ⊥) → take most_held (take held line ++ (get_or chunk i 0 ∷ [])) ≡ take held' line'
        → length line' ≡ most_held → held' ≤ most_held
        → Feeding s chunk l0 keys rests d line' held' l at (i + 1)
    other line' held' n e w f =
        record {
          state = sym (after_more s chunk i h ∙ rw (← q.state, ne_eqb (get_or chunk i 0) 10 n, e));
          text =
              record {
                put = rw (texts_more s chunk i h, ← q.state, ne_eqb (get_or chunk i 0) 10 n, append-nil) q.text.put;
                short = omega (arith, q.text.short);
              };
          within = omega arith;
          width = w;
          few = f;
          keeps = q.keeps;
          space = q.space;
        }

    pub feed_hold : (get_or chunk i 0 ≡ 10 → ⊥) → held < most_held → Feeding s chunk l0 keys rests d (set line held (get_or chunk i 0)) (held + 1) l at (i + 1)
    feed_hold n f =
        let c : held < length line = omega (arith, q.width) in
        let z : take (held + 1) (set line held (get_or chunk i 0)) ≡ take held line ++ (get_or chunk i 0 ∷ []) = rw add-one (take-suc-set line held (get_or chunk i 0) c) in
        let k : length (take held line ++ (get_or chunk i 0 ∷ [])) ≤ most_held =
        omega (arith, length-append (take held line) (get_or chunk i 0 ∷ []), lent_counted line held (lent_within line most_held held q.width q.few)) in
        other (set line held (get_or chunk i 0)) (held + 1) n (take_all most_held (take held line ++ (get_or chunk i 0 ∷ [])) k ∙ sym z) (simp length-set q.width) (omega arith)

    -- as many bytes as may be are held already
    pub feed_drop : (get_or chunk i 0 ≡ 10 → ⊥) → most_held ≤ held → Feeding s chunk l0 keys rests d line held l at (i + 1)
    feed_drop n f =
        let e : length (take held line) ≡ most_held = omega (arith, q.few, lent_counted line held (lent_within line most_held held q.width q.few)) in
        other line held n (take_at (take held line) (get_or chunk i 0 ∷ []) most_held e) q.width q.few

  pub feed_all : (s0 : Session) → script_of s0 ≡ s → length chunk ≤ i → Took s0 chunk l0 l (record { session = record { keys = keys; rests = rests; desk = d; line = line; held = held }; wrote = at })
  feed_all s0 e h =
      let k : take i chunk ≡ chunk = take_all i chunk h in
      record {
        state = rw e (q.state ∙ rw k);
        text = rw e (record { put = rw k at q.text.put; short = omega (arith, q.text.short, q.within) });
        valid = record { held = q.few; desk = q.keeps };
      }

pub ruleset feeding = (feed_none, feed_few, feed_long, lent_within, lent_counted, feed_runs, feed_line, feed_hold, feed_drop)

-- the end of the input
module _ (s : Session) (l : List ℕ) where
  pub end_none : s.held ≡ 0 → Finished s l l 0
  end_none h = record { text = rw h (record { put = put_none; short = omega arith }) }

  pub end_line : (l' : List ℕ) (r : Fed) → ValidSession s → length s.line ≡ most_held → (s.held ≡ 0 → ⊥) → Took s (10 ∷ []) l l' r
      → Finished s l l' r.wrote
  unfolding texts
  end_line l' r f w n m =
      record { text = rw (ne_eqb (length (take s.held s.line)) 0 (λ e. n (lent_counted s.line s.held (lent_within s.line most_held s.held w f.held) ∙ e)), ← append-nil (run_line (desk_of s.desk s.keys s.rests) (take s.held s.line)).text) m.text }

pub ruleset ending = (end_none, end_line)
