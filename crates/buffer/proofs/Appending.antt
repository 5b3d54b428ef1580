-- Texts put one after another. Assumes nothing.
use Prim.Native.Nat.{ℕ}
use mathlib.Core.List.{List, [], ◌++◌}
use Rattle.buffer.specs.Put.{Put, Printed}
use Rattle.buffer.proofs.Put.{put_none, put_put}
use Rattle.buffer.specs.Appended.{Extends}

module _ (l : List ℕ) (at : ℕ) where
  -- no text, and one
  pub extends_none : Extends l at l at
  extends_none = record { text = []; put = put_none }

  module _ (l1 : List ℕ) (i : ℕ) where
    pub put_extends : (text : List ℕ) → Put l at text l1 i → Extends l at l1 i
    put_extends text p = record { text = text; put = p }

    pub printed_extends : (most : ℕ) (text : List ℕ) → Printed most l at text l1 i → Extends l at l1 i
    printed_extends most text p = record { text = text; put = p.put }

    -- one text and another
    module _ (l2 : List ℕ) (j : ℕ) where
      pub extends_extends : Extends l at l1 i → Extends l1 i l2 j → Extends l at l2 j
      extends_extends p q = record { text = p.text ++ q.text; put = put_put p.put q.put }

      pub extends_put : (text : List ℕ) → Extends l at l1 i → Put l1 i text l2 j → Extends l at l2 j
      extends_put text p q = record { text = p.text ++ text; put = put_put p.put q }

      pub put_then : (text : List ℕ) → Put l at text l1 i → Extends l1 i l2 j → Extends l at l2 j
      put_then text p q = record { text = text ++ q.text; put = put_put p q.put }

pub ruleset one_text = (put_extends, printed_extends)

pub ruleset appending = (extends_none, put_extends, printed_extends, extends_extends, extends_put, put_then)
