-- A script's bytes as they come: the state between two reads, and what a read does and prints. Assumes nothing.
-- What `start`, `feed` and `finish` promise.
use Rattle.std.specs.Prelude.{ℕ, ◌+◌, ◌*◌, ◌≤◌, ◌≡◌, List, [], ◌∷◌, ◌++◌, eqb, length, take, replicate, None}
use Rattle.basis.specs.Choice.{pick}
use Rattle.buffer.specs.Put.{Printed}
use Rattle.requests.specs.Line.{longest_line}
use Rattle.limits.specs.Limits.{most_circuits}
use Rattle.desk.specs.Desk.{Desk, desk_of, Keeps, run_line, answer_room}
pub use Rattle.script.specs.declared.Session.{Session}
pub use Rattle.script.specs.declared.Fed.{Fed}

-- the desk, and the bytes of a line that has not ended
pub record Script : Type 0 where
  pub desk : Desk
  pub held : List ℕ

-- the most bytes of a line that are held: enough to see that a line is too long
abbrev pub most_held : ℕ
most_held = longest_line + 1

-- one byte: a line end runs the line held, and any other is held
abbrev pub byte_after : Script → ℕ → Script
byte_after s x = pick (eqb x 10) (record { desk = (run_line s.desk s.held).desk; held = [] }) (record { desk = s.desk; held = take most_held (s.held ++ (x ∷ [])) })

abbrev pub byte_text : Script → ℕ → List ℕ
byte_text s x = pick (eqb x 10) (run_line s.desk s.held).text []

-- the script after some bytes, and what they print
unfoldable pub after : Script → List ℕ → Script
after s [] = s
after s (x ∷ xs) = after (byte_after s x) xs

unfoldable pub texts : Script → List ℕ → List ℕ
texts s [] = []
texts s (x ∷ xs) = byte_text s x ++ texts (byte_after s x) xs

-- what the end of the input prints: a line that is held is run like any other
abbrev pub end_text : Script → List ℕ
end_text s = pick (eqb (length s.held) 0) [] (run_line s.desk s.held).text

-- the session before the first byte
abbrev pub start_session : Session
start_session = record {
  keys = replicate most_circuits 0;
  rests = replicate most_circuits 0;
  desk = None;
  line = replicate most_held 0;
  held = 0;
}

-- the script that a session is: of its line the first bytes are held
abbrev pub script_of : Session → Script
script_of s = record { desk = desk_of s.desk s.keys s.rests; held = take s.held s.line }

-- a session that holds at most so many bytes, at a desk whose table meets the ring rules; so it is before the first byte and after any bytes
pub record ValidSession (s : Session) : Type 0 where
  pub held : s.held ≤ most_held
  pub desk : Keeps s.desk s.keys s.rests

-- bytes were taken in: the session is the script after them, and what they print stands at the start of the lent bytes. Left
-- free: the session's bytes past the first `held`; no script has them, so nothing printed later depends on them
pub record Took (s : Session) (chunk l l' : List ℕ) (r : Fed) : Type 0 where
  pub state : script_of r.session ≡ after (script_of s) chunk
  pub text : Printed (answer_room * length chunk) l 0 (texts (script_of s) chunk) l' r.wrote
  pub valid : ValidSession r.session

-- the end of the input was taken in: what it prints stands at the start of the lent bytes
pub record Finished (s : Session) (l l' : List ℕ) (wrote : ℕ) : Type 0 where
  pub text : Printed answer_room l 0 (end_text (script_of s)) l' wrote
