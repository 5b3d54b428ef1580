-- The map by its words: what writing makes of the lit places. Assumes nothing. What `put_map` promises.
use Rattle.std.specs.Prelude.{ℕ, zero, suc, ◌/◌, ◌%◌, List, [], ◌∷◌, ◌++◌}
use Rattle.lit_words.specs.declared.Lit.{Lit}

-- the k lowest bytes of w, lowest first
unfoldable pub low_first : ℕ → ℕ → List ℕ
low_first zero w = []
low_first (suc k) w = w % 256 ∷ low_first k (w / 256)

-- the words of the lit places, the low one first
unfoldable pub words_bytes : Lit → List ℕ
words_bytes lit = low_first 8 lit.low ++ low_first 8 lit.high
