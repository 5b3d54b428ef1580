-- Bytes put over a part of lent ones. Assumes nothing.
use Rattle.std.proofs.Common.{◌≡◌, ℕ, ◌+◌, ◌-◌, ◌≤◌, List, length, take, drop, length-take, length-drop, append_assoc, arith}
use lib.Seq.{drop-drop}
use Rattle.std.proofs.lemmas.List.Edits.{sets-eq}
use borrow.Rule.Slice.PartMut.{put_mid}
use Rattle.buffer.specs.Appended.{Appended}

pub part_put : (l : List ℕ) (at count : ℕ) (new : List ℕ) → at + count ≤ length l → length new ≡ length (take (at + count - at) (drop at l)) → Appended count l at (put_mid at (at + count - at) l new) (at + count)
part_put l at count new h same =
    let e : length new ≡ count = omega (arith, same, length-take (at + count - at) (drop at l), length-drop at l) in
    let k : at + count - at ≡ count = omega arith in
    let g : at + length new ≤ length l = omega arith in
    record {
      some = record { text = new; put = record { is = rw (k, sets-eq new l at g, e, append_assoc, drop-drop); end = omega arith } };
      short = omega arith;
    }
