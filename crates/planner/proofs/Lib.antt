-- The laws of the planner's lines: what answers them.
mod Lines
