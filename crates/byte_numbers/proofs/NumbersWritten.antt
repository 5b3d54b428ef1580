-- The bytes of a number written, the highest first. Assumes nothing.
use Prim.Native.Nat.{ℕ, suc, ◌+◌, ◌-◌, ◌/◌, ◌%◌, ◌^◌, ◌<◌}
use mathlib.Core.Path.{◌≡◌}
use mathlib.Core.List.{List}
use native.Mathlib.Omega.{arith}
use lib.ListN.{take, drop}
use lib.Seq.{take_all}
use mir.Syntax.{w32}
use Rattle.std.specs.Int.{to_be_bytes}
use Rattle.buffer.specs.Put.{Room, Put}
use Rattle.form.specs.Bytes.{high_first}
use Rattle.form.proofs.Numbers.{high_long, high_drop}
use Rattle.byte_numbers.specs.Widths.{most_bytes, Wide}

-- the four bytes of a number
four_are : (n : ℕ) → n < 2 ^ 32 → to_be_bytes w32 n ≡ high_first most_bytes n
unfolding high_first
four_are n h =
    let a : n / 256 / 256 / 256 ≡ n / 16777216 % 256 = omega arith in
    let b : n / 256 / 256 % 256 ≡ n / 65536 % 256 = omega arith in
    rw (a, b)

-- a number that fits in so many of them
module _ (width n : ℕ) (w : Wide width n) (small : n < 2 ^ 32) (v : List ℕ) (e : v ≡ to_be_bytes w32 n) where
  last_bytes : take (most_bytes - (most_bytes - width)) (drop (most_bytes - width) v) ≡ high_first width n
  last_bytes =
      let k : suc (width - 1) ≡ width = omega (arith, w.some) in
      let j : most_bytes - width + suc (width - 1) ≡ most_bytes = omega (arith, w.some, w.most) in
      let d : drop (most_bytes - width) (high_first most_bytes n) ≡ high_first width n = rw (j, k) at (high_drop (most_bytes - width) (width - 1) n (rw k w.fits)) in
      rw (e, four_are n small, d) (take_all (most_bytes - (most_bytes - width)) (high_first width n) (omega (arith, w.most, high_long width n)))

  module _ (l : List ℕ) (i : ℕ) where
    pub bytes_room : Room l i (high_first width n) → Room l i (take (most_bytes - (most_bytes - width)) (drop (most_bytes - width) v))
    bytes_room h = rw last_bytes h

    pub bytes_put : (l1 : List ℕ) (m : ℕ) → Put l i (take (most_bytes - (most_bytes - width)) (drop (most_bytes - width) v)) l1 m → Put l i (high_first width n) l1 m
    bytes_put l1 m p = rw last_bytes at p

pub ruleset number_rules = (bytes_room, bytes_put)
