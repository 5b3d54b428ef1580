-- The laws of the planner's lines: which of them leave something free, the script's among them, and what an opening prints.
pub mod Freely
pub mod Script
