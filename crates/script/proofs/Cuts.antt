-- It does not matter how the input is cut into reads. Assumes nothing.
use Prim.Native.Nat.{ℕ, ◌+◌, ◌<◌}
use mathlib.Core.Path.{◌≡◌, refl, ap, ◌∙◌}
use mathlib.Core.List.{List, [], ◌∷◌, ◌++◌, append_assoc, append-nil}
use native.Mathlib.Numerals.{add-one}
use lib.ListN.{length, take, get_or}
use lib.Seq.{take-suc}
use Rattle.script.specs.Bytes.{Script, byte_after, byte_text, after, texts}

-- two reads leave what one read of both leaves
pub after_cut : (s : Script) (a b : List ℕ) → after s (a ++ b) ≡ after (after s a) b
unfolding after
after_cut s [] b = refl
after_cut s (x ∷ a) b = after_cut (byte_after s x) a b

-- and print what it prints
pub texts_cut : (s : Script) (a b : List ℕ) → texts s (a ++ b) ≡ texts s a ++ texts (after s a) b
unfolding after texts
texts_cut s [] b = refl
texts_cut s (x ∷ a) b = rw (texts_cut (byte_after s x) a b, append_assoc)

-- one byte more
module _ (s : Script) (chunk : List ℕ) (i : ℕ) (h : i < length chunk) where
  pub after_more : after s (take (i + 1) chunk) ≡ byte_after (after s (take i chunk)) (get_or chunk i 0)
  unfolding after
  after_more = rw (add-one i, take-suc chunk i 0) (after_cut s (take i chunk) (get_or chunk i 0 ∷ []))

  pub texts_more : texts s (take (i + 1) chunk) ≡ texts s (take i chunk) ++ byte_text (after s (take i chunk)) (get_or chunk i 0)
  unfolding texts
  texts_more =
      rw (add-one i, take-suc chunk i 0)
      (texts_cut s (take i chunk) (get_or chunk i 0 ∷ []) ∙ ap (λ (t : List ℕ). texts s (take i chunk) ++ t) (append-nil (byte_text (after s (take i chunk)) (get_or chunk i 0))))
