-- Only `show` and lines with a file leave something free: of any other the outcome is the same, whatever is free. Assumes nothing.
use Prim.Native.Nat.{ℕ}
use mathlib.Core.Path.{◌≡◌, refl}
use mathlib.Core.Bool.{false}
use mathlib.Core.List.{List}
use native.Mathlib.Omega.{arith}
use Rattle.ring.specs.declared.RingTable.{RingTable}
use Rattle.desk.specs.Desk.{Desk}
use Rattle.commands.specs.Command.{command_of}
use Rattle.commands.specs.declared.Command.{Command}
use Rattle.commands.specs.declared.Command.TheVariants.{Read, ReadFile, Ask, Frequency, Wavelength, Tidy, From, Desk as at_desk}
use Rattle.commands.specs.declared.Question.{Question}
use Rattle.commands.specs.declared.Question.TheVariants.{Write, WriteFile, Load, Link, Circuits, Show, To, Nodes}
use Rattle.planner_lines.specs.Line.{Free, answer_text, run_command, plan_line, asks_free, leaves_free}

module _ (free other : Free) where
  same_answer : (t : RingTable) (q : Question) → asks_free q ≡ false → answer_text free t q ≡ answer_text other t q
  same_answer t Write h = refl
  same_answer t (WriteFile path) h = let z : ◌≡◌ {A = ℕ} 0 1 = cc in absurd (omega arith)
  same_answer t Load h = refl
  same_answer t (Link link wavelength direction) h = refl
  same_answer t Circuits h = refl
  same_answer t Show h = let z : ◌≡◌ {A = ℕ} 0 1 = cc in absurd (omega arith)
  same_answer t (To node) h = refl
  same_answer t Nodes h = refl

  same_command : (d : Desk) (l : List ℕ) (c : Command) → leaves_free c ≡ false → run_command free d l c ≡ run_command other d l c
  same_command d l (Read start) h = refl
  same_command d l (ReadFile start) h = let z : ◌≡◌ {A = ℕ} 0 1 = cc in absurd (omega arith)
  same_command d l (Ask question) h = rw (same_answer d.table question h)
  same_command d l (Frequency spacing start w) h = refl
  same_command d l (Wavelength spacing start f) h = refl
  same_command d l Tidy h = refl
  same_command d l (From node) h = refl
  same_command d l at_desk h = refl

  -- 01: "An answer that the papers leave free is named in the contract": of every line but `show`, `read @PATH` and `write @PATH` the outcome
  -- is the same, whatever is free
  pub nothing_free : (d : Desk) (l : List ℕ) → leaves_free (command_of l) ≡ false → plan_line free d l ≡ plan_line other d l
  unfolding plan_line
  nothing_free d l h = same_command d l (command_of l) h
