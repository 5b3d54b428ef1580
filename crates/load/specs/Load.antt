-- 01, "Load and link": the load of a link, over the places t of a ring of N nodes. Assumes nothing. What `report` promises.
use Rattle.std.specs.Prelude.{ℕ, zero, suc, List, [], ◌∷◌, ◌++◌}
use Rattle.limits.specs.Limits.{most_wavelengths}
use Rattle.lightpath.specs.Place.{place_of}
use Rattle.lightpath.specs.Circuit.{users}
use Rattle.lightpath.specs.declared.Circuit.{Circuit}
use Rattle.lightpath.specs.declared.Direction.{Direction}
use Rattle.lightpath.specs.declared.Direction.TheVariants.{Clockwise as clockwise, Counterclockwise as counterclockwise}
use Rattle.slots.specs.Slot.{held}
use Rattle.channels.specs.Channels.{Channels, at}

-- a circuit at its place is a lightpath: those of direction d on the wavelengths below n
unfoldable pub lightpaths_below : ℕ → Channels → Direction → List Circuit
lightpaths_below zero t d = []
lightpaths_below (suc w) t d = lightpaths_below w t d ++ held (at t (place_of w d))

-- those of all its wavelengths
abbrev pub lightpaths : Channels → Direction → List Circuit
lightpaths t d = lightpaths_below most_wavelengths t d

-- the load of link l in direction d: the number of lightpaths over it
abbrev pub link_load : ℕ → Channels → Direction → ℕ → ℕ
link_load N t d l = users N d l (lightpaths t d)

-- for link 1 to k, the load clockwise and then counterclockwise
unfoldable pub loads_to : ℕ → ℕ → Channels → List ℕ
loads_to zero N t = []
loads_to (suc k) N t = loads_to k N t ++ (link_load N t clockwise (suc k) ∷ link_load N t counterclockwise (suc k) ∷ [])

-- for link 1 to N
abbrev pub loads : ℕ → Channels → List ℕ
loads N t = loads_to N N t
