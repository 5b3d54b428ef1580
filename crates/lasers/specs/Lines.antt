-- What is printed in answer to `frequency` and `wavelength`. Assumes nothing. What `answer_frequency` and `answer_wavelength` promise.
use Rattle.std.specs.Prelude.{ℕ, List, [], ◌∷◌, Ok, Err}
use Rattle.refusals.specs.Refusal.{number_of}
use Rattle.text.specs.Bytes.{bytes}
use Rattle.print.specs.Answers.{line_of}
use Rattle.print.specs.Filled.{filled_room}
use Rattle.grid.specs.Tuning.{Carried, Tuned}

-- `frequency F`, or `frequency refused R`
abbrev pub frequency_line : Tuned → List ℕ
frequency_line (Ok f) = line_of (("frequency ", f.0) ∷ [])
frequency_line (Err r) = line_of (("frequency refused ", number_of r) ∷ [])

-- `wavelength W`, or `wavelength refused R`
abbrev pub wavelength_line : Carried → List ℕ
wavelength_line (Ok w) = line_of (("wavelength ", w.0) ∷ [])
wavelength_line (Err r) = line_of (("wavelength refused ", number_of r) ∷ [])

-- the most bytes that each takes, with ten digits in place of `#`: those of its longer line
abbrev pub frequency_room : ℕ
frequency_room = filled_room (bytes "frequency refused #\n")

abbrev pub wavelength_room : ℕ
wavelength_room = filled_room (bytes "wavelength refused #\n")
