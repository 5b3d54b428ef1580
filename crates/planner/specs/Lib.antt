-- What a question of the table asks for and is answered.
pub mod Asks
