-- The most bytes that the answer to a line of the planner's program takes. Assumes nothing. What `has_room` promises.
use Rattle.std.specs.Prelude.{ℕ}
use Rattle.picture.specs.Room.{picture_room}

-- those of a picture: every other answer takes fewer
abbrev pub line_room : ℕ
line_room = picture_room
