-- A host's way through a script: `start`, and any number of `feed`s, each on the session that the call before gave. Assumes nothing.
-- What these calls and `finish` promise together: the bytes that they write are those that the script prints.
use Rattle.std.specs.Prelude.{ℕ, ◌*◌, ◌≤◌, List, [], ◌++◌, length, take}
use Rattle.desk.specs.Desk.{answer_room}
use Rattle.script.specs.Bytes.{Session, Fed, start_session, Took}

-- the bytes `input` were taken in, the bytes `output` were written, each call's after those before, and the session is s; what bytes are
-- lent, and what they hold, may differ from call to call
pub data Reads : List ℕ → List ℕ → Session → Type 0 where
  started : Reads [] [] start_session
  fed : {input output chunk l l' : List ℕ} {s : Session} {r : Fed} → Reads input output s → answer_room * length chunk ≤ length l → Took s chunk l l' r
      → Reads (input ++ chunk) (output ++ take r.wrote l') r.session
