-- The lines of an answer, from their words with the numbers put in. Assumes nothing.
use Prim.Native.Nat.{ℕ}
use mathlib.Core.Path.{◌≡◌}
use mathlib.Core.List.{List}
use native.Mathlib.Omega.{arith}
use Rattle.lightpath.specs.declared.Wavelength.{Wavelength}
use Rattle.refusals.specs.Refusal.{number_of}
use Rattle.refusals.specs.declared.Refusal.{Refusal}
use Rattle.grid.specs.declared.Frequency.{Frequency}
use Rattle.buffer.specs.Put.{Printed}
use Rattle.text.specs.Bytes.{bytes}
use Rattle.print.specs.Answers.{piece}
use Rattle.print.specs.Filled.{filled, filled_room}
use Rattle.lasers.specs.Lines.{frequency_line, frequency_room, wavelength_line, wavelength_room}
use Rattle.grid.specs.Tuning.{Carried, Tuned}
use Rattle.std.specs.Prelude.{Ok, Err}

module _ (l l' : List ℕ) (at e : ℕ) where
  pub frequency_told : (t : Tuned) (f : Frequency) → t ≡ Ok f → Printed (filled_room (bytes "frequency #\n")) l at (filled (bytes "frequency #\n") f.0 0 0 0) l' e
      → Printed frequency_room l at (frequency_line t) l' e
  unfolding filled piece
  frequency_told t f h p = record { put = rw h p.put; short = omega (arith, p.short) }

  pub frequency_refused : (t : Tuned) (r : Refusal) → t ≡ Err r → Printed frequency_room l at (filled (bytes "frequency refused #\n") (number_of r) 0 0 0) l' e
      → Printed frequency_room l at (frequency_line t) l' e
  unfolding filled piece
  frequency_refused t r h p = rw h p

  pub wavelength_told : (c : Carried) (w : Wavelength) → c ≡ Ok w → Printed (filled_room (bytes "wavelength #\n")) l at (filled (bytes "wavelength #\n") w.0 0 0 0) l' e
      → Printed wavelength_room l at (wavelength_line c) l' e
  unfolding filled piece
  wavelength_told c w h p = record { put = rw h p.put; short = omega (arith, p.short) }

  pub wavelength_refused : (c : Carried) (r : Refusal) → c ≡ Err r → Printed wavelength_room l at (filled (bytes "wavelength refused #\n") (number_of r) 0 0 0) l' e
      → Printed wavelength_room l at (wavelength_line c) l' e
  unfolding filled piece
  wavelength_refused c r h p = rw h p

  -- the line of an answer that a call gave
  pub frequency_is : (t u : Tuned) → t ≡ u → Printed frequency_room l at (frequency_line t) l' e → Printed frequency_room l at (frequency_line u) l' e
  frequency_is t u h p = rw (← h) p

  pub wavelength_is : (c d : Carried) → c ≡ d → Printed wavelength_room l at (wavelength_line c) l' e → Printed wavelength_room l at (wavelength_line d) l' e
  wavelength_is c d h p = rw (← h) p

pub ruleset lines = (frequency_told, frequency_refused, wavelength_told, wavelength_refused, frequency_is, wavelength_is)
