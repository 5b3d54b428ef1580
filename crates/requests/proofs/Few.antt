-- A line has room for few ports: each takes a space and a digit. Assumes nothing.
use mathlib.Core.Path.{◌≡◌, refl}
use mathlib.Core.Bool.{Bool, true, false}
use mathlib.Core.List.{List, [], ◌∷◌, ◌++◌}
use Prim.Native.Nat.{ℕ, suc, ◌+◌, ◌*◌, ◌≤◌}
use native.Mathlib.Omega.{arith}
use lib.Dec.{eqb, leb}
use lib.ListN.{length, take, length-append}
use borrow.Author.Tests.{leb-true}
use Rattle.basis.specs.Choice.{pick}
use Rattle.basis.specs.Count.{weigh}
use Rattle.basis.proofs.Arrays.{lent_counted}
use Rattle.text.specs.Bytes.{bytes}
use Rattle.text.specs.Number.{number}
use Rattle.std.specs.Prelude.{Option, Some, None}
use Rattle.text.proofs.Reading.{number_some}
use Rattle.requests.specs.declared.Request.{Request}
use Rattle.requests.specs.declared.Request.TheVariants.{Ring, Open, Close, Bad}
use Rattle.requests.specs.declared.Line.{Line}
use Rattle.words.specs.Split.{words_after, words, same_text}
use Rattle.words.specs.Parse.{given, field, at_end}
use Rattle.requests.specs.Line.{longest_line, port_room, bad, ports_after, parse_ring, parse_open, parse_close, parse_words, parse_line}

-- the bytes that words take, each with a space
abbrev size : List (List ℕ) → ℕ
size = weigh (λ w. suc (length w))

-- the words of a text take its bytes, and one more space
words_size : (w s : List ℕ) → size (words_after w s) ≡ suc (length w + length s)
unfolding words_after
words_size w [] = omega arith
words_size w (x ∷ s) = go (eqb x 32) refl (words_size [] s) (words_size (w ++ (x ∷ [])) s)
  where
    go : (t : Bool) → eqb x 32 ≡ t → size (words s) ≡ suc (0 + length s) → size (words_after (w ++ (x ∷ [])) s) ≡ suc (length (w ++ (x ∷ [])) + length s)
        → size (words_after w (x ∷ s)) ≡ suc (length w + length (x ∷ s))
    go true e a b = rw e (omega (arith, a))
    go false e a b = rw e (omega (arith, b, length-append w (x ∷ [])))

-- a ring's ports take at most so many bytes
abbrev Few : ℕ → Request → Type 0
Few most (Ring n count) = 2 * count ≤ most
Few most (Open circuit) = Unit {0}
Few most (Close number) = Unit {0}
Few most Bad = Unit {0}

-- each part of a definition keeps the bound
module _ (most : ℕ) where
  few_given : (n : Option ℕ) (f : ℕ → Line) → ((k : ℕ) → n ≡ Some k → Few most (f k).request) → Few most (given bad n f).request
  few_given (Some k) f h = h k refl
  few_given None f h = tt

  few_pick : (t : Bool) (a b : Line) → Few most a.request → Few most b.request → Few most (pick t a b).request
  few_pick true a b p q = p
  few_pick false a b p q = q

  few_end : (ws : List (List ℕ)) (a : Line) → Few most a.request → Few most (at_end bad ws a).request
  few_end [] a p = p
  few_end (w ∷ ws) a p = tt

  few_field : (bits : ℕ) (ws : List (List ℕ)) (f : ℕ → List (List ℕ) → Line) → ((n : ℕ) (vs : List (List ℕ)) → size vs ≤ size ws → Few most (f n vs).request)
      → Few most (field bad bits ws f).request
  unfolding field
  few_field bits [] f h = tt
  few_field bits (w ∷ ws) f h = few_given (number _ w) _ (λ n e. h n ws (omega arith))

  few_ports : (n : ℕ) (ks : List ℕ) (ws : List (List ℕ)) → 2 * length ks + size ws ≤ most → Few most (ports_after n ks ws).request
  unfolding ports_after
  few_ports n ks [] h = omega arith
  few_ports n ks (w ∷ ws) h =
      few_given (number _ w) _ (λ k e. few_ports n (ks ++ (k ∷ [])) ws (omega (arith, length-append ks (k ∷ []), number_some _ w k e)))

  few_words : (ws : List (List ℕ)) → size ws ≤ most → Few most (parse_words ws).request
  unfolding parse_words parse_ring parse_open parse_close
  few_words [] h = tt
  few_words (w ∷ ws) h =
      few_pick (same_text w (bytes "ring")) _ _ (few_field 8 ws _ (λ n vs s. few_ports n [] vs (omega arith)))
      (few_pick (same_text w (bytes "open")) _ _
      (few_field 32 ws _ (λ n vs s. few_field 8 vs _ (λ n vs s. few_field 8 vs _ (λ n vs s. few_field 16 vs _ (λ n vs s. few_field 32 vs _ (λ n vs s. few_end vs _ tt))))))
      (few_pick (same_text w (bytes "close")) _ _ (few_field 32 ws _ (λ n vs s. few_end vs _ tt)) tt))

-- a line's ports take no more than the line
few_line : (l : List ℕ) → Few (longest_line + 1) (parse_line l).request
unfolding parse_line
few_line l = go (leb (length l) longest_line) refl
  where
    go : (t : Bool) → leb (length l) longest_line ≡ t → Few (longest_line + 1) (pick t (parse_words (words l)) bad).request
    go false e = tt
    go true e = few_words (longest_line + 1) (words l) (omega (arith, words_size [] l, leb-true (length l) longest_line e))

-- what a caller that lends the ports of a parsed line has to show: there are as many as the request counts
module _ (l : List ℕ) (r : Line) (n count : ℕ) (e : r ≡ parse_line l) (k : r.request ≡ Ring n count) (h : length r.ports ≡ port_room) where
  pub ports_within : count ≤ length r.ports
  ports_within = let few : Few (longest_line + 1) (Ring n count) = rw (← e, k) at (few_line l) in omega arith

  pub ports_counted : count ≡ length (take count r.ports)
  ports_counted = lent_counted r.ports count ports_within

pub ruleset lending = (ports_within, ports_counted)
