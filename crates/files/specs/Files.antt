-- What reading and writing a file answers. No contract can say what stands in a file. Assumes nothing.
-- What `read_file` and `write_file` promise.
use Rattle.std.specs.Prelude.{ℕ, ◌-◌, ◌≤◌, List, ◌++◌, length, take, ◌≡◌, Option, Some, None}

-- what was read stands at the start of the lent bytes l
abbrev pub Within : Option ℕ → List ℕ → Type 0
Within (Some n) l = n ≤ length l
Within None l = Unit {0}

-- the system takes a name of at most 4,095 bytes
abbrev pub longest_name : ℕ
longest_name = 4095

-- the bytes of the ending of a new file's name, `.ringplan-XXXXXX`
abbrev pub ending : ℕ
ending = 16

-- the new file's name has its ending too
abbrev pub longest_path : ℕ
longest_path = longest_name - ending

-- a path has a byte, and is no longer than that
pub record IsPath (path : List ℕ) : Type 0 where
  pub some : 1 ≤ length path
  pub short : length path ≤ longest_path

-- the most bytes that are kept of what std says of an error
abbrev pub words_room : ℕ
words_room = 128

-- of a text after what was kept before it, as much is kept as fits
abbrev pub Kept : List ℕ → List ℕ → List ℕ → Type 0
Kept old text new = new ≡ take words_room (old ++ text)
