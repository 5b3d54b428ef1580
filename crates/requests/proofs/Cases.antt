-- Lines and what they ask for by the definition: document 01's own, and those at the borders of its words. Assumes nothing.
use mathlib.Core.Path.{◌≡◌, refl}
use mathlib.Core.List.{List, [], ◌∷◌, ◌++◌, map}
use Prim.Native.Nat.{ℕ}
use lib.ListN.{replicate}
use Rattle.text.specs.Bytes.{bytes}
use Rattle.text.specs.Number.{number, number_after}
use Rattle.requests.specs.declared.Request.TheVariants.{Open, Close}
use Rattle.requests.specs.declared.Line.{Line}
use Rattle.words.specs.Split.{words_after}
use Rattle.words.specs.Parse.{field}
use Rattle.requests.specs.Line.{plain_line, bad, ring, ports_after, parse_ring, parse_open, parse_close, parse_words, parse_line}

-- the request for a circuit
abbrev opening : ℕ → ℕ → ℕ → ℕ → ℕ → Line
opening number source destination remark account =
    plain_line (Open (record { number = number; source = source; destination = destination; remark = remark; account = account }))

abbrev cases : List (List ℕ × Line)
cases =
    (bytes "ring 5 1 1 1 1 1", ring 5 (1 ∷ 1 ∷ 1 ∷ 1 ∷ 1 ∷ []))
    ∷ (bytes "open 11 1 5 0 0", opening 11 1 5 0 0)
    ∷ (bytes "close 13", plain_line (Close 13))
    -- leading zeros are allowed, and too wide goes by the value
    ∷ (bytes "open 00011 01 05 00 0007", opening 11 1 5 0 7)
    ∷ (bytes "open 4294967295 255 000255 65535 4294967295", opening 4294967295 255 255 65535 4294967295)
    ∷ (bytes "open 4294967296 1 5 0 0", bad)
    ∷ (bytes "open 11 256 5 0 0", bad)
    ∷ (bytes "open 11 1 00000000256 0 0", bad)
    ∷ (bytes "open 11 1 5 65536 0", bad)
    ∷ (bytes "open 11 1 5 0 4294967296", bad)
    ∷ (bytes "ring 256", bad)
    ∷ (bytes "ring 2 300", bad)
    ∷ (bytes "ring 2 65 0", ring 2 (65 ∷ 0 ∷ []))
    -- a ring with no port is a ring, and the word alone is none
    ∷ (bytes "ring 5", ring 5 [])
    ∷ (bytes "ring", bad)
    -- single spaces, and nothing else
    ∷ (bytes "", bad)
    ∷ (bytes " close 13", bad)
    ∷ (bytes "close  13", bad)
    ∷ (bytes "close 13 ", bad)
    ∷ (bytes "close\t13", bad)
    ∷ (bytes "close 13\r", bad)
    ∷ (bytes "close 13 1", bad)
    ∷ (bytes "close +13", bad)
    ∷ (bytes "Close 13", bad)
    ∷ (bytes "closed 13", bad)
    -- five numbers, no fewer and no more
    ∷ (bytes "open 11 1 5 0", bad)
    ∷ (bytes "open 11 1 5 0 0 0", bad)
    -- 256 bytes are a line, 257 none; a number of 250 digits is too wide
    ∷ (bytes "close " ++ (replicate 249 48 ++ bytes "7"), plain_line (Close 7))
    ∷ (bytes "close " ++ (replicate 250 48 ++ bytes "7"), bad)
    ∷ (bytes "close 1" ++ replicate 249 48, bad)
    ∷ []

-- each line is parsed as the table says
pub cases_parsed : map (λ c. parse_line c.0) cases ≡ map (λ c. c.1) cases
unfolding parse_line parse_words parse_ring parse_open parse_close ports_after field number number_after words_after
cases_parsed = refl
