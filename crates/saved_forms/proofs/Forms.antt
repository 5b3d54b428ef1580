-- Saved forms as words and as bytes. Assumes nothing.
use Prim.Native.Nat.{ℕ, ◌+◌, ◌*◌, ◌≤◌}
use mathlib.Core.Path.{◌≡◌, refl, ◌∙◌}
use mathlib.Core.Bool.{Bool, true, false}
use mathlib.Core.List.{List, [], ◌∷◌, ◌++◌}
use native.Mathlib.Omega.{arith}
use lib.ListN.{length, take, drop, length-take}
use lib.Seq.{sets, sets-eq, length-sets, take-append_seam}
use borrow.Author.Tests.{le-ltb}
use Rattle.buffer.specs.Put.{Put, Printed}
use Rattle.buffer.proofs.Put.{wider}
use Rattle.ports.specs.Ports.{wavelengths}
use Rattle.text.specs.Bytes.{bytes}
use Rattle.words.specs.Split.{same_text}
use Rattle.refusals.specs.declared.Refusal.{Refusal}
use Rattle.ring.specs.Table.{meets_rules}
use Rattle.ring.specs.declared.RingTable.{RingTable}
use Rattle.ring.specs.declared.Answered.{Answered}
use Rattle.roster.specs.declared.Heading.{Heading}
use Rattle.form.specs.Form.{form_of, longest_form}
use Rattle.form.specs.Reading.{read_of}
use Rattle.form.proofs.Length.{form_most}
use Rattle.std.specs.Prelude.{Result, Ok, Err}
use Rattle.encode.specs.Answer.{written_of, bytes_after}
use Rattle.std.specs.Prelude.{Option, Some, None}
use lib.Pointwise.{pointwise}
use lib.Dec.{eqb}
use Rattle.words.proofs.Parse.{same_is}
use Rattle.hex_text.specs.Hex.{byte_of, is_hex, bytes_of, Unhexed}
use Rattle.files.specs.Files.{Within}
use Rattle.commands.specs.Command.{most_read}
use Rattle.desk.specs.Desk.{desk_of, desk_after, Keeps}
use Rattle.desk.specs.declared.Ran.{Ran}
use Rattle.inventory.specs.Lines.{read_line, read_room}
use Rattle.planner_lines.specs.Line.{read_form, read_file}
use Rattle.planner_lines.specs.Ran.{CanAnswer, LineAnswered, FileAnswered}
use Rattle.saved_forms.specs.Saved.{FormIn, WordRead}
use Rattle.std.specs.Prelude.{Ok, Err}

-- two digits give at most one byte
bytes_short : (s : List ℕ) → 2 * length (bytes_of s) ≤ length s
unfolding bytes_of
bytes_short [] = omega arith
bytes_short (x ∷ []) = omega arith
bytes_short (x ∷ y ∷ s) = go (byte_of x y) refl (bytes_short s)
  where
    go : (r : Option ℕ) → byte_of x y ≡ r → 2 * length (bytes_of s) ≤ length s → 2 * length (bytes_of (x ∷ y ∷ s)) ≤ length (x ∷ y ∷ s)
    go (Some b) e h = rw e (omega arith)
    go None e h = rw e (omega arith)

-- bytes put at the start are the first
put_first : (l vs : List ℕ) → length vs ≤ length l → take (length vs) (sets l 0 vs) ≡ vs
put_first l vs h = rw (sets-eq vs l 0 (omega arith)) (take-append_seam vs (drop (0 + length vs) l))

-- the word `-`, and any other
module _ (word l : List ℕ) where
  pub no_bytes : pointwise eqb word (45 ∷ []) ≡ true → WordRead word l (Some 0)
  no_bytes k = let e : same_text word (bytes "-") ≡ true = rw same_is at k in (omega arith, rw e, rw e)

  module _ (l' : List ℕ) (few : length word ≤ 2 * length l) (k : pointwise eqb word (45 ∷ []) ≡ false) where
    other : same_text word (bytes "-") ≡ false
    other = rw same_is at k

    pub some_bytes : (r : Option ℕ) → Unhexed word l l' r → WordRead word l' r
    some_bytes (Some n) u = go (is_hex word) refl
      where
        go : (b : Bool) → is_hex word ≡ b → WordRead word l' (Some n)
        go true g =
            let i : Some n ≡ Some (length (bytes_of word)) = rw g at u.answer in
            let m : n ≡ length (bytes_of word) = cc in
            let h : length (bytes_of word) ≤ length l = omega (arith, bytes_short word) in
            rw (m, u.left, length-sets l 0 (bytes_of word)) (h, rw other g, rw other (put_first l (bytes_of word) h))
        go false g = let i : Some n ≡ None = rw g at u.answer in let z : ◌≡◌ {A = ℕ} 0 1 = cc in absurd (omega arith)
    some_bytes None u = go (is_hex word) refl
      where
        go : (b : Bool) → is_hex word ≡ b → WordRead word l' None
        go true g = let i : None ≡ Some (length (bytes_of word)) = rw g at u.answer in let z : ◌≡◌ {A = ℕ} 0 1 = cc in absurd (omega arith)
        go false g = rw other g

-- the bytes read from a word are within the lent ones
pub word_within : (word l : List ℕ) (r : Option ℕ) (n : ℕ) → WordRead word l r → r ≡ Some n → n ≤ length l
word_within word l r n h e = (rw e at h).0

-- and so are those of a file
pub file_within : (r : Option ℕ) (l : List ℕ) (n : ℕ) → Within r l → r ≡ Some n → n ≤ length l
file_within r l n h e = rw e at h

-- the form of a table that meets the ring rules, written into the bytes of the longest form
module _ (t : RingTable) (l l' : List ℕ) (meets : meets_rules t ≡ true) (width : length l ≡ longest_form) (w : Result ℕ Refusal) (e : w ≡ written_of t (length l)) (k : l' ≡ bytes_after t l) where
  fits : length (form_of t) ≤ length l
  fits = omega (arith, form_most t meets)

  whole : w ≡ Ok (length (form_of t))
  unfolding written_of
  whole = e ∙ rw (meets, le-ltb (length l) (length (form_of t)) fits)

  after : l' ≡ form_of t ++ drop (length (form_of t)) l
  unfolding bytes_after
  after = k ∙ rw (meets, le-ltb (length l) (length (form_of t)) fits)

  pub form_in : (n : ℕ) → length l' ≡ length l → w ≡ Ok n → FormIn t l' n
  form_in n same i =
      let m : n ≡ length (form_of t) = cc (whole) in
      record { is = rw (m, after) (take-append_seam (form_of t) (drop (length (form_of t)) l)); within = omega (arith, fits, m); most = omega (arith, form_most t meets, m) }

  pub form_not : (r : Refusal) → w ≡ Err r → FormIn t l' 0
  form_not r i = let z : ◌≡◌ {A = ℕ} 0 1 = cc (whole) in absurd (omega arith)

-- a form is read into the desk
module _ (d : Option Heading) (keys rests l : List ℕ) (at : ℕ) (q : CanAnswer d keys rests l at) where
  module _ (form : List ℕ) (a : Answered) (e : a ≡ read_of form) (w : ℕ) (i : w ≡ wavelengths a.table.ports) (l' : List ℕ) (next : ℕ)
      (p : Printed read_room l at (read_line a.table.nodes w a.verdict) l' next) where
    pub form_taken : (keys' rests' : List ℕ) (d' : Option Heading)
        → (desk_of d' keys' rests' ≡ desk_after (desk_of d keys rests) a.table a.verdict) × Keeps d' keys' rests'
        → LineAnswered (read_form (desk_of d keys rests) form) l at keys' rests' l' (record { desk = d'; next = next })
    unfolding read_form
    form_taken keys' rests' d' h = record { desk = h.0 ∙ rw (← e); text = rw (← e, ← i) (wider (omega arith) p); keeps = h.1 }

  pub form_keeps : Keeps d keys rests
  form_keeps = q.keeps

  -- and so is what a file has, or nothing where it cannot be read
  pub file_taken : (b : List ℕ) (n : ℕ) (keys' rests' l' : List ℕ) (r : Ran) → length b ≡ most_read → LineAnswered (read_form (desk_of d keys rests) (take n b)) l at keys' rests' l' r
      → FileAnswered (desk_of d keys rests) l at keys' rests' l' r
  unfolding read_file
  file_taken b n keys' rests' l' r long h = record { opened = true; content = take n b; few = omega (arith, length-take n b); ran = h }

  pub file_failed : (l' : List ℕ) (next : ℕ) → Put l at (bytes "read failed\n") l' next → FileAnswered (desk_of d keys rests) l at keys rests l' (record { desk = d; next = next })
  unfolding read_file
  file_failed l' next p =
      record { opened = false; content = []; few = omega arith; ran = record { desk = refl; text = record { put = p; short = omega (arith, p.end) }; keeps = q.keeps } }

pub ruleset reading = (form_taken, form_keeps, file_taken, file_failed)

pub ruleset forms = (no_bytes, some_bytes, word_within, file_within, form_in, form_not)
