-- The laws of the one-link question of a saved form.
pub mod Forms
