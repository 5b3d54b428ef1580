-- The entries printed one after another. Assumes nothing.
use Prim.Native.Nat.{ℕ, ◌+◌, ◌*◌, ◌≤◌}
use mathlib.Core.Path.{◌≡◌, refl, ap}
use mathlib.Core.List.{List, ◌∷◌}
use native.Mathlib.Omega.{arith}
use lib.ListN.{length}
use Rattle.std.proofs.lemmas.List.{nil_from_length}
use Rattle.limits.specs.Limits.{most_ports}
use Rattle.entries.specs.Entry.{entry_of}
use Rattle.roster.specs.Roster.{entries_in}
use Rattle.buffer.specs.Put.{Put, Printed}
use Rattle.buffer.proofs.Put.{put_none, put_put, put_length}
use Rattle.row_lines.specs.declared.Listed.{Listed}
use Rattle.row_lines.specs.Lines.{entry_line, entry_lines, entry_room, entry_lines_room}

-- the entries of the keys ks and the rests rs are still to be printed: whatever prints them at this position has printed all
pub record Sending (way : Listed) (keys rests l0 : List ℕ) (start : ℕ) (l : List ℕ) (next : ℕ) (ks rs : List ℕ) : Type 0 where
  pub rest : (l' : List ℕ) (e : ℕ) → Put l next (entry_lines way (entries_in ks rs)) l' e → Put l0 start (entry_lines way (entries_in keys rests)) l' e
  pub short : next + entry_room * length ks ≤ start + entry_lines_room
  pub same : length rs ≡ length ks
  pub space : start + entry_lines_room ≤ length l0
  pub long : length l ≡ length l0

pub send_none : (way : Listed) (keys rests l : List ℕ) (start : ℕ) → start + entry_lines_room ≤ length l → length keys ≤ most_ports → length rests ≡ length keys
    → Sending way keys rests l start l start keys rests
send_none way keys rests l start h f s =
    record { rest = λ l' e q. q; short = omega arith; same = s; space = h; long = refl }

module _ (way : Listed) (keys rests l0 : List ℕ) (start : ℕ) (l : List ℕ) (next : ℕ) (ks rs : List ℕ) (q : Sending way keys rests l0 start l next ks rs) where
  pub send_all : length ks ≡ 0 → Printed entry_lines_room l0 start (entry_lines way (entries_in keys rests)) l next
  send_all h = record { put = q.rest l next (rw (nil_from_length ks h) put_none); short = omega (arith, q.short) }

  module _ (k r : ℕ) (ks' rs' : List ℕ) (e : ks ≡ k ∷ ks') (d : rs ≡ r ∷ rs') where
    pub send_room : next + entry_room ≤ length l
    send_room = omega (arith, ap length e, q.short, q.space, q.long)

    pub send_next : (l1 : List ℕ) (j : ℕ) → Printed entry_room l next (entry_line way (entry_of k r)) l1 j → Sending way keys rests l0 start l1 j ks' rs'
    send_next l1 j p =
        record {
          rest = λ l' e' s. q.rest l' e' (rw (e, d) (put_put p.put s));
          short = omega (arith, ap length e, q.short, p.short);
          same = omega (arith, ap length e, ap length d, q.same);
          space = q.space;
          long = omega (arith, put_length p.put, q.long);
        }
