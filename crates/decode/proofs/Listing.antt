-- Reading the records of all places: what a loop over the places has read. Assumes nothing.
use Prim.Native.Nat.{ℕ, zero, suc, ◌+◌, ◌-◌, ◌≤◌, ◌<◌}
use mathlib.Core.Path.{◌≡◌, refl, sym, ap, ◌∙◌}
use mathlib.Core.Bool.{Bool}
use mathlib.Core.List.{List, [], ◌∷◌, ◌++◌, append_assoc, append-nil}
use native.Mathlib.Numerals.{add-one}
use native.Mathlib.Omega.{arith}
use lib.ListN.{length, take, drop, set, length-set}
use lib.Seq.{take-suc-set, take_all}
use Rattle.limits.specs.Limits.{place_count}
use Rattle.slots.specs.declared.Slot.{Slot}
use Rattle.channels.specs.declared.Channel.{Channel}
use Rattle.channels.specs.Channels.{Channels}
use Rattle.refusals.specs.declared.Refusal.{Refusal}
use Rattle.form.specs.Reader.{Field, got, fault, Reader, and_then}
use Rattle.form.specs.Reading.{read_place, read_records_by, read_records}
use Rattle.decode_record.specs.Found.{FieldAt}
use Rattle.std.specs.Prelude.{Result}

-- the bit of a place, by another test
pub place_same : (b s : List ℕ) (l m : Bool) (r : Result (Slot × ℕ) Refusal) → l ≡ m → FieldAt b r (read_place l s) → FieldAt b r (read_place m s)
place_same b s l m r e h = rw (← e) h

-- some channels before those that are read
unfoldable pub after : Channels → Field Channels → Field Channels
after xs f = and_then f (λ chs s. got (xs ++ chs) s)

after_one : (xs : Channels) (c : Channel) (f : Field Channels) → after xs (and_then f (λ chs s. got (c ∷ chs) s)) ≡ after (xs ++ (c ∷ [])) f
unfolding after
after_one xs c (got chs s) = ap (λ (l : Channels). got l s) (sym (append_assoc xs (c ∷ []) chs))
after_one xs c (fault n) = refl

after_none : (f : Field Channels) → f ≡ after [] f
unfolding after
after_none (got chs s) = refl
after_none (fault n) = refl

-- p places are read, into the first p channels of chs; the next record is at i
pub record Listing (lit : ℕ → Bool) (b : List ℕ) (start p : ℕ) (chs : Channels) (i : ℕ) : Type 0 where
  pub is : read_records lit place_count 0 (drop start b) ≡ after (take p chs) (read_records lit (place_count - p) p (drop i b))
  pub within : i ≤ length b
  pub long : length chs ≡ place_count

module _ (lit : ℕ → Bool) (b : List ℕ) (start : ℕ) where
  pub listing_none : (chs : Channels) → start ≤ length b → length chs ≡ place_count → Listing lit b start 0 chs start
  listing_none chs h l = record { is = after_none (read_records lit place_count 0 (drop start b)); within = h; long = l }

  module _ (p : ℕ) (chs : Channels) (i : ℕ) (q : Listing lit b start p chs i) where
    module _ (h : p < place_count) where
      rest : (f : Field Slot) → read_place (lit p) (drop i b) ≡ f → read_records lit place_count 0 (drop start b)
          ≡ after (take p chs) (and_then f (λ slot s. and_then (read_records lit (place_count - (p + 1)) (suc p) s) (λ chs s. got (record { slot = slot } ∷ chs) s)))
      unfolding read_records_by
      rest f g = let k : place_count - p ≡ suc (place_count - (p + 1)) = omega arith in q.is ∙ rw (k, g)

      pub listing_fault : (n : Refusal) → read_place (lit p) (drop i b) ≡ fault n → read_records lit place_count 0 (drop start b) ≡ fault n
      unfolding after
      listing_fault n g = rest (fault n) g

      pub listing_next : (c : Channel) (n : ℕ) → (n ≤ length b) × (read_place (lit p) (drop i b) ≡ got c.slot (drop n b)) → Listing lit b start (p + 1) (set chs p c) n
      listing_next c n k =
          let t : take (suc p) (set chs p c) ≡ take p chs ++ (c ∷ []) = take-suc-set chs p c (omega (arith, q.long)) in
          record {
            is = rest (got c.slot (drop n b)) k.1 ∙ after_one (take p chs) c (read_records lit (place_count - (p + 1)) (suc p) (drop n b)) ∙ rw (add-one, ← t);
            within = k.0;
            long = length-set chs p c ∙ q.long;
          }

    pub listing_all : place_count ≤ p → p ≤ place_count → read_records lit place_count 0 (drop start b) ≡ got chs (drop i b)
    unfolding after read_records_by
    listing_all h l = let e : p ≡ place_count = omega arith in q.is ∙ rw (e, take_all place_count chs (omega (arith, q.long)), append-nil chs)

pub ruleset listing = (listing_none, listing_next, listing_fault, listing_all)

-- readers that agree after a field
then_same : {A B : Type 0} (f : Field A) (g h : A → Reader B) → ((x : A) (s : List ℕ) → g x s ≡ h x s) → and_then f g ≡ and_then f h
then_same (got x s) g h e = e x s
then_same (fault n) g h e = refl

-- maps that agree have the same records
pub records_same : (f g : ℕ → Bool) (k p : ℕ) (s : List ℕ) → ((j : ℕ) → j < p + k → f j ≡ g j) → read_records f k p s ≡ read_records g k p s
unfolding read_records_by
records_same f g zero p s h = refl
records_same f g (suc k) p s h =
    rw (h p (omega arith)) (then_same (read_place (g p) s) _ _ (λ slot s. rw (records_same f g k (suc p) s (λ j l. h j (omega arith)))))
