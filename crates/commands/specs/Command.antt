-- What a line asks for beyond the script's three kinds; any other is for the order desk, which runs it or refuses it. Assumes nothing.
-- What `parse_command` promises.
use Rattle.std.specs.Prelude.{ℕ, suc, ◌-◌, ◌*◌, List, [], ◌∷◌, eqb, leb, ℤ, length, get_or}
use Prim.Native.String.{String}
use Rattle.basis.specs.Choice.{pick}
use Rattle.words.specs.Split.{words}
use Rattle.words.specs.Parse.{by_word, field, signed_field, at_end}
use Rattle.commands.specs.declared.Command.{Command}
use Rattle.commands.specs.declared.Command.TheVariants.{Read, ReadFile, Ask, Frequency, Wavelength, Tidy, From, Desk}
use Rattle.commands.specs.declared.Question.TheVariants.{Write, WriteFile, Load, Link, Circuits, Show, To, Nodes}

-- of a form at most 4,096 bytes are read, from the digits of a word or from a file
abbrev pub most_read : ℕ
most_read = 4096

-- a line of at most 8,192 bytes: two digits for each of these
abbrev pub longest_command : ℕ
longest_command = 2 * most_read

-- where the last word of the line l begins, if the words left are one that has a byte; else 0
abbrev pub last_at : List ℕ → List (List ℕ) → ℕ
last_at l [] = 0
last_at l ([] ∷ ws) = 0
last_at l ((x ∷ w) ∷ []) = length l - length (x ∷ w)
last_at l ((x ∷ w) ∷ v ∷ ws) = 0

-- the word that begins at a position: a path after `@` (the byte 64), or another
abbrev pub by_first : List ℕ → ℕ → Command → Command → Command
by_first l start file other = pick (eqb start 0) Desk (pick (eqb (get_or l start 0) 64) file other)

-- `read FORM`: FORM is `@` and a path, or a word with the form's digits
unfoldable pub read_command : List ℕ → List (List ℕ) → Command
read_command l ws = by_first l (last_at l ws) (ReadFile (suc (last_at l ws))) (Read (last_at l ws))

-- `write`, or `write @PATH`
unfoldable pub write_command : List ℕ → List (List ℕ) → Command
write_command l [] = Ask Write
write_command l (w ∷ ws) = by_first l (last_at l (w ∷ ws)) (Ask (WriteFile (suc (last_at l (w ∷ ws))))) Desk

-- `link LINK WAVELENGTH DIRECTION`: "the three numbers may have 64 bits"
unfoldable pub link_command : List (List ℕ) → Command
link_command ws =
    field Desk 64 ws (λ link ws.
    field Desk 64 ws (λ wavelength ws.
    field Desk 64 ws (λ direction ws.
    at_end Desk ws (Ask (Link link wavelength direction)))))

-- `frequency SPACING START WAVELENGTH` or `wavelength SPACING START FREQUENCY` (02, E3): the first and the last number have 32 bits, and
-- START is signed with 32
unfoldable pub grid_command : (ℕ → ℤ → ℕ → Command) → List (List ℕ) → Command
grid_command asked ws =
    field Desk 32 ws (λ spacing ws.
    signed_field Desk ws (λ start ws.
    field Desk 32 ws (λ last ws.
    at_end Desk ws (asked spacing start last))))

-- `from NODE` (02, E7) or `to NODE`: "NODE has 8 bits"
unfoldable pub node_command : (ℕ → Command) → List (List ℕ) → Command
node_command asked ws = field Desk 8 ws (λ node ws. at_end Desk ws (asked node))

-- the lines by their first word, and what the other words lead to
abbrev pub kinds : List ℕ → List (List ℕ) → List (String × Command)
kinds l ws =
    ("read", read_command l ws)
    ∷ ("write", write_command l ws)
    ∷ ("load", at_end Desk ws (Ask Load))
    ∷ ("link", link_command ws)
    ∷ ("circuits", at_end Desk ws (Ask Circuits))
    ∷ ("show", at_end Desk ws (Ask Show))
    ∷ ("frequency", grid_command Frequency ws)
    ∷ ("wavelength", grid_command Wavelength ws)
    ∷ ("tidy", at_end Desk ws Tidy)
    ∷ ("from", node_command From ws)
    ∷ ("to", node_command (λ node. Ask (To node)) ws)
    ∷ ("nodes", at_end Desk ws (Ask Nodes))
    ∷ []

-- a line by its words: the first says which it is
unfoldable pub command_words : List ℕ → List (List ℕ) → Command
command_words l [] = Desk
command_words l (w ∷ ws) = by_word Desk w (kinds l ws)

unfoldable pub command_of : List ℕ → Command
command_of l = pick (leb (length l) longest_command) (command_words l (words l)) Desk
