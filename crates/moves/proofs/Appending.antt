-- Up to three moves after the moves of a tidying by value. Assumes nothing.
use Prim.Native.Nat.{ℕ, zero, suc, ◌+◌, ◌-◌, ◌≤◌, ◌<◌, min}
use mathlib.Core.Path.{◌≡◌, sym, ap, ◌∙◌}
use mathlib.Core.List.{List, [], ◌∷◌, ◌++◌}
use native.Mathlib.Decide.{dec_lt}
use native.Mathlib.Omega.{arith}
use borrow.Rule.Slice.PartMut.{put_mid}
use lib.ListN.{length, take, drop, replicate, length-append, take-append-drop}
use lib.Seq.{take_all, drop-append-add}
use Rattle.std.proofs.lemmas.Slice.{take-put_mid, drop-put_mid}
use Rattle.limits.specs.Limits.{tidy_records}
use Rattle.moves.specs.declared.Move.{Move}
use Rattle.moves.specs.declared.Moves.{Moves}
use Rattle.moves.specs.declared.MoveList.{MoveList}
use Rattle.moves.specs.Records.{most_moves, blank, listed}
use Rattle.moves.specs.MoveList.{list_of}
use Rattle.moves.specs.Appends.{Appends}
use Rattle.moves.proofs.Recorded.{recorded_list}

-- moves are written from the end of them on
pub append_put : (a : MoveList) (ms ns : List Move) (e : ℕ) → ns ≡ ms → e ≡ a.count + length ms → e ≤ length a.list
    → Appends a ms (record { count = e; list = put_mid a.count (e - a.count) a.list ns })
append_put a ms ns e same long room = record {
  are = take-put_mid a.count (e - a.count) a.list ns e (rw same long) (omega arith) ∙ rw same;
  counted = long;
  rest = drop-put_mid a.count (e - a.count) a.list ns e (omega arith) (omega arith) (rw same (omega arith));
}

-- of up to three moves by value as many as their count says, and no more than three, are those that they list
pub listed_first : (ms : Moves) (n : ℕ) → n ≡ min ms.count most_moves → take n (ms.first ∷ ms.second ∷ ms.third ∷ []) ≡ listed ms
listed_first ms n e = go (dec_lt most_moves ms.count)
  where
    go : Dec (most_moves < ms.count) → take n (ms.first ∷ ms.second ∷ ms.third ∷ []) ≡ listed ms
    go (yes h) =
        let f : n ≡ 3 = omega arith in
        rw f (sym (take_all ms.count (ms.first ∷ ms.second ∷ ms.third ∷ []) (omega arith)))
    go (no h) = let f : n ≡ ms.count = omega arith in rw f

-- of some blank records the first are left out
drop_blanks : (k n : ℕ) → drop k (replicate (k + n) blank) ≡ replicate n blank
drop_blanks zero n = let e : 0 + n ≡ n = omega arith in rw e
drop_blanks (suc k) n = let e : suc k + n ≡ suc (k + n) = omega arith in rw e (drop_blanks k n)

-- up to 128 moves by value with others after them are these and those by value
pub append_list : (ms ns : List Move) (b : MoveList) → length ms + length ns ≤ tidy_records → Appends (list_of ms) ns b → b ≡ list_of (ms ++ ns)
append_list ms ns b room h =
    λ i. record { count = (h.counted ∙ sym (length-append ms ns)) i; list = list i }
  where
    blanks : List Move
    blanks = replicate (tidy_records - length ms) blank

    are : take b.count b.list ≡ ms ++ ns
    are = h.are ∙ ap (λ l. l ++ ns) (recorded_list ms)

    left : drop b.count (ms ++ blanks) ≡ replicate (tidy_records - length (ms ++ ns)) blank
    left =
        let e : tidy_records - length ms ≡ length ns + (tidy_records - length (ms ++ ns)) = rw (length-append ms ns) (omega arith) in
        let n = tidy_records - length (ms ++ ns) in
        ap (λ k. drop k (ms ++ blanks)) h.counted ∙ drop-append-add ms blanks (length ns)
        ∙ ap (λ k. drop (length ns) (replicate k blank)) e ∙ drop_blanks (length ns) n

    list : b.list ≡ (ms ++ ns) ++ replicate (tidy_records - length (ms ++ ns)) blank
    list = sym (take-append-drop b.count b.list) ∙ rw (are, h.rest, left)
