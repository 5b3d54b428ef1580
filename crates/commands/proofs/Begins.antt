-- The form or the path of a command begins within its line. Assumes nothing.
use Prim.Native.Nat.{ℕ, ◌≤◌, ◌^◌}
use Prim.Native.String.{String}
use mathlib.Core.Path.{◌≡◌, refl}
use mathlib.Core.Bool.{Bool, true, false}
use mathlib.Core.List.{List, [], ◌∷◌}
use native.Mathlib.Omega.{arith}
use lib.Dec.{eqb, leb}
use lib.IntN.{ℤ}
use lib.ListN.{length, get_or}
use borrow.Author.Tests.{eqb-false}
use Rattle.basis.specs.Choice.{pick}
use Rattle.basis.specs.Count.{All}
use Rattle.std.specs.Prelude.{Option, Some, None}
use Rattle.text.specs.Bytes.{bytes}
use Rattle.text.specs.Number.{number}
use Rattle.text.specs.Signed.{signed}
use Rattle.words.specs.Split.{words, same_text}
use Rattle.words.specs.Parse.{by_word, given, field, given_signed, signed_field, at_end}
use Rattle.commands.specs.declared.Command.{Command}
use Rattle.commands.specs.declared.Command.TheVariants.{Read, ReadFile, Ask, Frequency, Wavelength, Tidy, From, Desk}
use Rattle.commands.specs.declared.Question.{Question}
use Rattle.commands.specs.declared.Question.TheVariants.{Write, WriteFile, Load, Link, Circuits, Show, To, Nodes}
use Rattle.commands.specs.Command.{longest_command, last_at, by_first, read_command, write_command, link_command, grid_command, node_command, kinds, command_words, command_of}
use Rattle.commands.proofs.Last.{last_within}

-- where it begins is at most n
abbrev Starts : ℕ → Question → Type 0
Starts n Write = Unit {0}
Starts n (WriteFile s) = s ≤ n
Starts n Load = Unit {0}
Starts n (Link link wavelength direction) = Unit {0}
Starts n Circuits = Unit {0}
Starts n Show = Unit {0}
Starts n (To node) = Unit {0}
Starts n Nodes = Unit {0}

abbrev Begins : ℕ → Command → Type 0
Begins n (Read s) = s ≤ n
Begins n (ReadFile s) = s ≤ n
Begins n (Ask q) = Starts n q
Begins n (Frequency spacing start wavelength) = Unit {0}
Begins n (Wavelength spacing start frequency) = Unit {0}
Begins n Tidy = Unit {0}
Begins n (From node) = Unit {0}
Begins n Desk = Unit {0}

-- each part of the definition keeps that
module _ (n : ℕ) where
  begins_pick : (t : Bool) (a b : Command) → Begins n a → Begins n b → Begins n (pick t a b)
  begins_pick true a b p q = p
  begins_pick false a b p q = q

  begins_end : (ws : List (List ℕ)) (a : Command) → Begins n a → Begins n (at_end Desk ws a)
  begins_end [] a p = p
  begins_end (w ∷ ws) a p = tt

  begins_given : (m : Option ℕ) (f : ℕ → Command) → ((k : ℕ) → Begins n (f k)) → Begins n (given Desk m f)
  begins_given (Some k) f h = h k
  begins_given None f h = tt

  begins_field : (bits : ℕ) (ws : List (List ℕ)) (f : ℕ → List (List ℕ) → Command) → ((k : ℕ) (vs : List (List ℕ)) → Begins n (f k vs))
      → Begins n (field Desk bits ws f)
  unfolding field
  begins_field bits [] f h = tt
  begins_field bits (w ∷ ws) f h = begins_given (number (2 ^ bits) w) _ (λ k. h k ws)

  begins_given_signed : (m : Option ℤ) (f : ℤ → Command) → ((z : ℤ) → Begins n (f z)) → Begins n (given_signed Desk m f)
  begins_given_signed (Some z) f h = h z
  begins_given_signed None f h = tt

  begins_signed : (ws : List (List ℕ)) (f : ℤ → List (List ℕ) → Command) → ((z : ℤ) (vs : List (List ℕ)) → Begins n (f z vs))
      → Begins n (signed_field Desk ws f)
  unfolding signed_field
  begins_signed [] f h = tt
  begins_signed (w ∷ ws) f h = begins_given_signed (signed w) _ (λ z. h z ws)

  begins_first : (l : List ℕ) (s : ℕ) (file other : Command) → ((s ≡ 0 → ⊥) → Begins n file) → ((s ≡ 0 → ⊥) → Begins n other)
      → Begins n (by_first l s file other)
  begins_first l s file other p q = go (eqb s 0) refl
    where
      go : (t : Bool) → eqb s 0 ≡ t → Begins n (by_first l s file other)
      go true e = rw e tt
      go false e = let m : s ≡ 0 → ⊥ = eqb-false s 0 e in rw e (begins_pick (eqb (get_or l s 0) 64) file other (p m) (q m))

  begins_word : (w : List ℕ) (ks : List (String × Command)) → All (λ k. Begins n k.1) ks → Begins n (by_word Desk w ks)
  begins_word w [] h = tt
  begins_word w (k ∷ ks) h = begins_pick (same_text w (bytes k.0)) k.1 _ h.0 (begins_word w ks h.1)

module _ (l : List ℕ) where
  begins_read : (ws : List (List ℕ)) → Begins (length l) (read_command l ws)
  unfolding read_command
  begins_read ws = begins_first (length l) l (last_at l ws) _ _ (λ m. last_within l ws m) (λ m. omega (arith, last_within l ws m))

  begins_write : (ws : List (List ℕ)) → Begins (length l) (write_command l ws)
  unfolding write_command
  begins_write [] = tt
  begins_write (w ∷ ws) = begins_first (length l) l (last_at l (w ∷ ws)) _ _ (λ m. last_within l (w ∷ ws) m) (λ m. tt)

  begins_link : (ws : List (List ℕ)) → Begins (length l) (link_command ws)
  unfolding link_command
  begins_link ws =
      begins_field (length l) 64 ws _ (λ a us. begins_field (length l) 64 us _ (λ b vs. begins_field (length l) 64 vs _ (λ c rs. begins_end (length l) rs _ tt)))

  begins_grid : (asked : ℕ → ℤ → ℕ → Command) → ((s : ℕ) (z : ℤ) (k : ℕ) → Begins (length l) (asked s z k)) → (ws : List (List ℕ)) → Begins (length l) (grid_command asked ws)
  unfolding grid_command
  begins_grid asked h ws =
      begins_field (length l) 32 ws _ (λ a us. begins_signed (length l) us _ (λ b vs. begins_field (length l) 32 vs _ (λ c rs. begins_end (length l) rs _ (h _ _ _))))

  begins_node : (asked : ℕ → Command) → ((k : ℕ) → Begins (length l) (asked k)) → (ws : List (List ℕ)) → Begins (length l) (node_command asked ws)
  unfolding node_command
  begins_node asked h ws = begins_field (length l) 8 ws _ (λ a us. begins_end (length l) us _ (h a))

  begins_kinds : (ws : List (List ℕ)) → All (λ k. Begins (length l) k.1) (kinds l ws)
  begins_kinds ws =
      let end : (a : Command) → Begins (length l) a → Begins (length l) (at_end Desk ws a) = begins_end (length l) ws in (
        begins_read ws,
        (
          begins_write ws,
          (
            end (Ask Load) tt,
            (
              begins_link ws,
              (
                end (Ask Circuits) tt,
                (
                  end (Ask Show) tt,
                  (
                    begins_grid Frequency (λ s z k. tt) ws,
                    (
                      begins_grid Wavelength (λ s z k. tt) ws,
                      (
                        end Tidy tt,
                        (
                          begins_node From (λ k. tt) ws,
                          (
                            begins_node (λ k. Ask (To k)) (λ k. tt) ws,
                            (
                              end (Ask Nodes) tt,
                              tt,
                            ),
                          ),
                        ),
                      ),
                    ),
                  ),
                ),
              ),
            ),
          ),
        ),
      )

  begins_words : (ws : List (List ℕ)) → Begins (length l) (command_words l ws)
  unfolding command_words
  begins_words [] = tt
  begins_words (w ∷ ws) = begins_word (length l) w (kinds l ws) (begins_kinds ws)

  begins : Begins (length l) (command_of l)
  unfolding command_of
  begins = begins_pick (length l) (leb (length l) longest_command) _ _ (begins_words (words l)) tt

-- what a caller that lends the rest of a line from there on has to show
module _ (l : List ℕ) (r : Command) (s : ℕ) (e : r ≡ command_of l) where
  pub read_begins : r ≡ Read s → s ≤ length l
  read_begins k = rw (← e, k) at (begins l)

  pub file_begins : r ≡ ReadFile s → s ≤ length l
  file_begins k = rw (← e, k) at (begins l)

  pub path_begins : (q : Question) → r ≡ Ask q → q ≡ WriteFile s → s ≤ length l
  path_begins q k i = rw (← e, k, i) at (begins l)

pub ruleset beginning = (read_begins, file_begins, path_begins)
