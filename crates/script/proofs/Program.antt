-- The whole program by its calls' promises: what `start`, any number of `feed`s and `finish` write, one after the other, is what the script of
-- all the bytes prints. Assumes nothing.
use Prim.Native.Nat.{ℕ, ◌*◌, ◌≤◌}
use mathlib.Core.Path.{◌≡◌, refl, ap, ◌∙◌}
use mathlib.Core.List.{List, ◌++◌}
use native.Mathlib.Omega.{arith}
use lib.ListN.{length, take}
use lib.Seq.{sets-eq, take_at}
use Rattle.buffer.specs.Put.{Printed}
use Rattle.buffer.proofs.Put.{put_length}
use Rattle.script.specs.Script.{script_text}
use Rattle.script.specs.Bytes.{Session, Fed, after, texts, end_text, start_session, script_of, ValidSession, Took, Finished}
use Rattle.script.specs.Reads.{Reads, started, fed}
use Rattle.script.proofs.Cuts.{after_cut, texts_cut}
use Rattle.script.proofs.ByLines.{bytes_by_lines}
use Rattle.script.proofs.Feeding.{start_valid}
use Rattle.desk.specs.Desk.{answer_room}

-- what is printed at the start of lent bytes with room for it is their first bytes
written : {most n : ℕ} {l l' text : List ℕ} → Printed most l 0 text l' n → most ≤ length l → take n l' ≡ text
written {most} {n} {l} {l'} {text} p h =
    let e : n ≡ length text = omega (arith, p.put.end) in
    rw (p.put.is, sets-eq text l 0 (omega (arith, p.short)), e) (take_at text _ (length text) refl)

-- after any reads the session is the script after their bytes
pub reads_state : {input output : List ℕ} {s : Session} → Reads input output s → script_of s ≡ after (script_of start_session) input
unfolding after
reads_state started = refl
reads_state (fed {input} {chunk = chunk} h room t) = t.state ∙ rw (after_cut (script_of start_session) input chunk, ← reads_state h)

-- and what was written is what they print
pub reads_text : {input output : List ℕ} {s : Session} → Reads input output s → output ≡ texts (script_of start_session) input
unfolding texts
reads_text started = refl
reads_text (fed {input} {chunk = chunk} h room t) = rw (reads_text h, written t.text room, texts_cut (script_of start_session) input chunk, ← reads_state h)

-- the session may be fed again
pub reads_valid : {input output : List ℕ} {s : Session} → Reads input output s → ValidSession s
reads_valid started = start_valid start_session refl
reads_valid (fed h room t) = t.valid

-- 01: what the program writes, read by read and at the end, is what the script of all the bytes read prints
pub program_prints : {input output l l' : List ℕ} {s : Session} {n : ℕ} → Reads input output s → answer_room ≤ length l
    → Finished s l l' n → output ++ take n l' ≡ script_text input
program_prints {input} h room f = rw (reads_text h, written f.text room ∙ ap end_text (reads_state h)) (bytes_by_lines input)

-- what a host that writes them out has to show: the lent bytes have as many
pub took_within : {s : Session} {chunk l l' : List ℕ} {r : Fed} → Took s chunk l l' r → answer_room * length chunk ≤ length l → r.wrote ≤ length l'
took_within t room = omega (arith, t.text.short, put_length t.text.put)

pub finished_within : {s : Session} {l l' : List ℕ} {n : ℕ} → Finished s l l' n → answer_room ≤ length l → n ≤ length l'
finished_within f room = omega (arith, f.text.short, put_length f.text.put)
