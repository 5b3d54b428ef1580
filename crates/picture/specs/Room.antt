-- The room that a picture takes, made of the room of its parts. Assumes nothing. What `put_picture` promises.
use Rattle.std.specs.Prelude.{ℕ, ◌+◌, ◌*◌}
use Rattle.limits.specs.Limits.{place_count}
use Rattle.text.specs.Bytes.{bytes}
use Rattle.print.specs.Filled.{filled_room}
use Rattle.columns.specs.Columns.{columns_room}

-- the title: its words, and three numbers
abbrev pub title_room : ℕ
title_room = filled_room (bytes "ring of # nodes, # wavelengths each way, # circuits\n")

-- what the signs mean
abbrev pub legend_room : ℕ
legend_room = 149

-- what a row is about
abbrev pub name_room : ℕ
name_room = 11

-- a row: its name and its columns
abbrev pub row_room : ℕ
row_room = name_room + columns_room

-- the rows that show no place: two of links, two of loads, three of ports
abbrev pub named_rows : ℕ
named_rows = 7

-- the rows: those, and one for each place at most
abbrev pub rows_room : ℕ
rows_room = (named_rows + place_count) * row_room

-- a picture
abbrev pub picture_room : ℕ
picture_room = title_room + rows_room + legend_room
