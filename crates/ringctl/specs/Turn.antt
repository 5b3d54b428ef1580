-- What the program does with what a read answered: where a read fails it runs nothing, and else it writes what the bytes read print. What C's
-- read and write did, no contract says. Assumes nothing. What each turn of `ringctl` keeps to.
use Rattle.std.specs.Prelude.{ℕ, ◌*◌, ◌≤◌, ◌≡◌, List, [], ◌∷◌, ◌++◌, Option, Some, None, Result, Ok, Err, length, take}
use Rattle.desk.specs.Desk.{answer_room}
use Rattle.script.specs.declared.Session.{Session}
use Rattle.script.specs.Bytes.{Took, Finished}
use Rattle.script.specs.Reads.{Reads}
use Rattle.ringctl.specs.declared.Turn.{Turn}
use Rattle.ringctl.specs.declared.Unwritten.{Unwritten}
use Rattle.ringctl.specs.declared.Next.TheVariants.{Read, Stop, ReadFailed, WriteFailed}

-- the most bytes of a read
abbrev pub read_size : ℕ
read_size = 1024

-- a read failed: nothing was run, and nothing is to be written
pub record Failed (s : Session) (l l' : List ℕ) (t : Turn) : Type 0 where
  pub next : t.next ≡ ReadFailed
  pub session : t.session ≡ s
  pub wrote : t.wrote ≡ 0
  pub lent : l' ≡ l

-- the input has ended: what its end prints is to be written
pub record InputEnded (s : Session) (l l' : List ℕ) (t : Turn) : Type 0 where
  pub next : t.next ≡ Stop
  pub finished : Finished s l l' t.wrote

-- bytes were read and taken in: what they print is to be written
pub record InputFed (s : Session) (chunk l l' : List ℕ) (t : Turn) : Type 0 where
  pub next : t.next ≡ Read
  pub took : Took s chunk l l' (record { session = t.session; wrote = t.wrote })

-- by the bytes read: where there are none the input has ended
abbrev pub InputTaken : Session → List ℕ → List ℕ → List ℕ → Turn → Type 0
InputTaken s [] l l' t = InputEnded s l l' t
InputTaken s (x ∷ chunk) l l' t = InputFed s (x ∷ chunk) l l' t

-- the bytes read, by the answer of a read: a count of bytes at the start of its buffer, or none where it failed
abbrev pub read_bytes : Option ℕ → List ℕ → List ℕ
read_bytes (Some k) bytes = take k bytes
read_bytes None bytes = []

-- and what became of them
abbrev pub ReadTaken : Session → Option ℕ → List ℕ → List ℕ → List ℕ → Turn → Type 0
ReadTaken s (Some k) bytes l l' t = InputTaken s (read_bytes (Some k) bytes) l l' t
ReadTaken s None bytes l l' t = Failed s l l' t

-- so it was taken in; the lent bytes had room for the answers, and hold them
pub record TookIn (s : Session) (got : Option ℕ) (bytes l l' : List ℕ) (t : Turn) : Type 0 where
  pub is : ReadTaken s got bytes l l' t
  pub room : answer_room * length bytes ≤ length l
  pub within : t.wrote ≤ length l'

-- the session is one that `start` and some `feed`s lead to
pub record Reached (s : Session) : Type 0 where
  pub input : List ℕ
  pub output : List ℕ
  pub reads : Reads input output s

-- a write of the answers took all that it was handed, or failed; what it was handed no contract says
abbrev pub handed : Result Unit Unwritten → Turn → Turn
handed (Ok x) t = t
handed (Err why) t = record { session = t.session; wrote = t.wrote; next = WriteFailed why }

-- one read: of some answer, and some bytes in its buffer, that were taken in and answered
pub record ReadOnce (s : Session) (l l' : List ℕ) (r : Turn) : Type 0 where
  pub got : Option ℕ
  pub bytes : List ℕ
  pub turn : Turn
  pub took : TookIn s got bytes l l' turn
  pub taken : Result Unit Unwritten
  pub is : r ≡ handed taken turn
  -- where the program goes on, it has taken in the bytes read after those before, and the answers at the start of the lent bytes come after
  -- those before
  pub goes_on : {input output : List ℕ} → Reads input output s → r.next ≡ Read
      → Reads (input ++ read_bytes got bytes) (output ++ take r.wrote l') r.session
