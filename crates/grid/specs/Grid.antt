-- 02, E3: the grid of ITU-T G.694.1, and a plan of it. "Frequencies and spacings are whole counts of 100 MHz (125 for 12.5 GHz)". Assumes
-- nothing. What `GridPlan::frequency` and `wavelength` promise.
use Rattle.std.specs.Prelude.{ℕ, suc, Bool, ◌&&◌, ◌||◌, eqb, ℤ, pos, neg_ℤ, nat_abs, ◌+ℤ◌, ◌*ℤ◌}
use Rattle.std.specs.Int.Signed.{le_z}
use Rattle.basis.specs.Search.{first_below}
pub use Rattle.grid.specs.declared.GridPlan.{GridPlan}

-- "193.1 THz plus n times the spacing"
abbrev pub anchor : ℕ
anchor = 1931000

abbrev pub grid_point : ℕ → ℤ → ℤ
grid_point s n = pos anchor +ℤ n *ℤ pos s

-- "the spacing of 12.5, 25, 50 or 100 GHz"
abbrev pub is_spacing : ℕ → Bool
is_spacing s = eqb s 125 || eqb s 250 || eqb s 500 || eqb s 1000

-- "a starting n from −200 to 200"
abbrev pub is_start : ℤ → Bool
is_start n = le_z (neg_ℤ (pos 200)) n && le_z n (pos 200)

-- "A plan names the spacing and a starting n"
abbrev pub is_plan : GridPlan → Bool
is_plan p = is_spacing p.spacing && is_start p.start

-- "wavelength w, from 0 to 63"
abbrev pub highest_wavelength : ℕ
highest_wavelength = 63

-- "stands at the starting n plus w": a count, since no plan has a frequency below zero (`above_zero`)
unfoldable pub frequency_at : GridPlan → ℕ → ℕ
frequency_at p w = nat_abs (grid_point p.spacing (p.start +ℤ pos w))

-- "The way back finds the wavelength for a frequency": the first that stands there, or 64 where none does
unfoldable pub wavelength_at : GridPlan → ℕ → ℕ
wavelength_at p f = first_below (suc highest_wavelength) (λ w. eqb (frequency_at p w) f)
