-- A turn of the program's loop: what a read answered is taken in, and the session reached so far goes on. Assumes nothing.
use Prim.Native.Nat.{ℕ, ◌*◌, ◌≤◌, ◌<◌, min}
use mathlib.Core.Path.{◌≡◌, refl, sym, ◌∙◌}
use mathlib.Core.Bool.{Bool, true, false}
use mathlib.Core.List.{List, [], ◌∷◌, ◌++◌}
use native.Mathlib.Omega.{arith}
use lib.Dec.{leb}
use lib.ListN.{length, take, length-take}
use lib.Seq.{take_all}
use borrow.Author.Tests.{leb-true, leb-false}
use Rattle.std.specs.Prelude.{Option, Some, None, Ok, Err}
use Rattle.basis.proofs.Arrays.{lent_counted}
use Rattle.desk.specs.Desk.{answer_room}
use Rattle.script.specs.declared.Session.{Session}
use Rattle.script.specs.declared.Fed.{Fed as FedSession}
use Rattle.script.specs.Bytes.{start_session, ValidSession, Took, Finished}
use Rattle.script.specs.Reads.{Reads, started, fed}
use Rattle.script.proofs.Program.{reads_valid, took_within, finished_within}
use Rattle.ringctl.specs.declared.Turn.{Turn}
use Rattle.ringctl.specs.declared.Unwritten.{Unwritten}
use Rattle.ringctl.specs.declared.Next.TheVariants.{Read, Stop, ReadFailed, WriteFailed}
use Rattle.ringctl.specs.Turn.{read_bytes, InputTaken, ReadTaken, TookIn, ReadOnce, Reached}

-- the count of a read, held to its buffer, gives the bytes that were read
counted : (k : ℕ) (bytes : List ℕ) → take (min k (length bytes)) bytes ≡ take k bytes
counted k bytes = go (leb k (length bytes)) refl
  where
    go : (t : Bool) → leb k (length bytes) ≡ t → take (min k (length bytes)) bytes ≡ take k bytes
    go true e = let h : min k (length bytes) ≡ k = omega (arith, leb-true k (length bytes) e) in rw h
    go false e =
        let f : length bytes < k = leb-false k (length bytes) e in
        let h : min k (length bytes) ≡ length bytes = omega arith in rw h (take_all (length bytes) bytes (omega arith) ∙ sym (take_all k bytes (omega arith)))

-- what was answered is got
module _ (s : Session) (bytes l l' : List ℕ) (one : answer_room ≤ length l) (room : answer_room * length bytes ≤ length l) (got : Option ℕ) where
  -- the read failed
  pub take_failed : got ≡ None → TookIn s got bytes l l (record { session = s; wrote = 0; next = ReadFailed })
  take_failed e = rw e (record { is = record { next = refl; session = refl; wrote = refl; lent = refl }; room = room; within = omega arith })

  module _ (k : ℕ) (e : got ≡ Some k) (count : ℕ) (c : count ≡ min k (length bytes)) where
    -- it read nothing
    pub take_ended : (n : ℕ) → count ≡ 0 → Finished s l l' n → TookIn s got bytes l l' (record { session = s; wrote = n; next = Stop })
    take_ended n o q =
        let i : take k bytes ≡ [] = sym (counted k bytes) ∙ rw (← c, o) in
        rw e (record { is = rw i (record { next = refl; finished = q }); room = room; within = finished_within q one })

    -- it read some bytes
    pub take_fed : count ≤ length bytes → (r : FedSession) → (count ≡ 0 → ⊥) → Took s (take count bytes) l l' r
        → TookIn s got bytes l l' (record { session = r.session; wrote = r.wrote; next = Read })
    take_fed w r n q =
        rw e
        (record {
          is = rw (← counted k bytes, ← c) (go (take count bytes) refl q);
          room = room;
          within = took_within q (omega (arith, length-take count bytes));
        })
      where
        go : (chunk : List ℕ) → take count bytes ≡ chunk → Took s chunk l l' r → InputTaken s chunk l l' (record { session = r.session; wrote = r.wrote; next = Read })
        go [] i q = absurd (n (lent_counted bytes count w ∙ rw i))
        go (x ∷ chunk) i q = record { next = refl; took = q }

pub ruleset taking = (take_failed, take_ended, take_fed)

-- before the first read
pub reached_start : (s : Session) → s ≡ start_session → Reached s
reached_start s e = rw e (record { input = []; output = []; reads = started })

pub reached_valid : (s : Session) → Reached s → ValidSession s
reached_valid s r = reads_valid r.reads

-- after a read that is not the last
more : (s : Session) (l l' : List ℕ) (t : Turn) {input output : List ℕ} → Reads input output s → t.next ≡ Read → (got : Option ℕ) (bytes : List ℕ)
    → answer_room * length bytes ≤ length l → ReadTaken s got bytes l l' t
    → Reads (input ++ read_bytes got bytes) (output ++ take t.wrote l') t.session
more s l l' t r n None bytes room q = let y : ◌≡◌ {A = ℕ} 0 1 = cc in absurd (omega arith)
more s l l' t {input} {output} r n (Some k) bytes room q = go (take k bytes) (omega (arith, length-take k bytes)) q
  where
    go : (chunk : List ℕ) → answer_room * length chunk ≤ length l → InputTaken s chunk l l' t
        → Reads (input ++ chunk) (output ++ take t.wrote l') t.session
    go [] h q = let y : ◌≡◌ {A = ℕ} 0 1 = cc in absurd (omega arith)
    go (x ∷ chunk) h q = fed {chunk = x ∷ chunk} {l = l} r h q.took

-- what was taken in is written out
module _ (s : Session) (got : Option ℕ) (bytes l l' : List ℕ) (t : Turn) (q : TookIn s got bytes l l' t) where
  pub turn_within : t.wrote ≤ length l'
  turn_within = q.within

  pub turn_counted : t.wrote ≡ length (take t.wrote l')
  turn_counted = lent_counted l' t.wrote q.within

  pub turn_written : ReadOnce s l l' t
  turn_written = record { got = got; bytes = bytes; turn = t; took = q; taken = Ok tt; is = refl; goes_on = λ r n. more s l l' t r n got bytes q.room q.is }

  pub turn_unwritten : (why : Unwritten) → ReadOnce s l l' (record { session = t.session; wrote = t.wrote; next = WriteFailed why })
  turn_unwritten why =
      record {
        got = got;
        bytes = bytes;
        turn = t;
        took = q;
        taken = Err why;
        is = refl;
        goes_on = λ r n. let y : ◌≡◌ {A = ℕ} 0 1 = cc in absurd (omega arith);
      }

pub ruleset writing = (reached_valid, turn_within, turn_counted, turn_written, turn_unwritten)

-- where the program goes on, it has read so much more
pub reached_more : (s : Session) (l l' : List ℕ) (r : Turn) → Reached s → ReadOnce s l l' r → r.next ≡ Read → Reached r.session
reached_more s l l' r h q n = record { input = _; output = _; reads = q.goes_on h.reads n }

pub ruleset turns = (reached_start, reached_more)
