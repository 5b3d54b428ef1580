-- The one-link question of a saved form.
pub mod Question
