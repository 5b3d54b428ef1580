-- What one line of a script asks for: document 01, "The script program and its cases". Assumes nothing.
-- What `parse_line` promises.
use Rattle.std.specs.Prelude.{ℕ, ◌-◌, ◌/◌, ◌^◌, List, [], ◌∷◌, ◌++◌, leb, length, replicate}
use Prim.Native.String.{String}
use Rattle.basis.specs.Choice.{pick}
use Rattle.text.specs.Number.{number}
use Rattle.requests.specs.declared.Request.{Request}
use Rattle.requests.specs.declared.Request.TheVariants.{Ring, Open, Close, Bad}
use Rattle.requests.specs.declared.Line.{Line}
use Rattle.words.specs.Split.{words}
use Rattle.words.specs.Parse.{by_word, given, field, at_end}

-- "lines to 256 bytes without the line end"
abbrev pub longest_line : ℕ
longest_line = 256

-- the most ports that such a line has room for: each takes a space and a digit
abbrev pub port_room : ℕ
port_room = longest_line / 2

-- a request with no ports beside it
abbrev pub plain_line : Request → Line
plain_line request = record { request = request; ports = replicate port_room 0 }

-- "anything else"
abbrev pub bad : Line
bad = plain_line Bad

-- a ring of n nodes with the ports ks: the request has their count, and zeros stand after them
abbrev pub ring : ℕ → List ℕ → Line
ring n ks = record { request = Ring n (length ks); ports = ks ++ replicate (port_room - length ks) 0 }

-- "k..": a port of 8 bits for each word that is left, after the ports ks
unfoldable pub ports_after : ℕ → List ℕ → List (List ℕ) → Line
ports_after n ks [] = ring n ks
ports_after n ks (w ∷ ws) = given bad (number (2 ^ 8) w) (λ k. ports_after n (ks ++ (k ∷ [])) ws)

-- "`ring N k..`", N of 8 bits
unfoldable pub parse_ring : List (List ℕ) → Line
parse_ring ws = field bad 8 ws (λ n ws. ports_after n [] ws)

-- "`open number source destination remark`", nodes of 8 bits, a number of 32 and a remark of 16; the account, of 32, is the last number
-- (02, E2)
unfoldable pub parse_open : List (List ℕ) → Line
parse_open ws =
    field bad 32 ws (λ number ws.
    field bad 8 ws (λ source ws.
    field bad 8 ws (λ destination ws.
    field bad 16 ws (λ remark ws.
    field bad 32 ws (λ account ws.
    at_end bad ws (plain_line (Open (record { number = number; source = source; destination = destination; remark = remark; account = account }))))))))

-- "`close number`"
unfoldable pub parse_close : List (List ℕ) → Line
parse_close ws = field bad 32 ws (λ number ws. at_end bad ws (plain_line (Close number)))

-- the three kinds of line by their first word, and what the other words lead to
abbrev pub kinds : List (List ℕ) → List (String × Line)
kinds ws = ("ring", parse_ring ws) ∷ ("open", parse_open ws) ∷ ("close", parse_close ws) ∷ []

-- a line by its words: the first says which it is
unfoldable pub parse_words : List (List ℕ) → Line
parse_words [] = bad
parse_words (w ∷ ws) = by_word bad w (kinds ws)

-- a line by its bytes: one that is too long is bad
unfoldable pub parse_line : List ℕ → Line
parse_line l = pick (leb (length l) longest_line) (parse_words (words l)) bad
