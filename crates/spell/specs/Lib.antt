pub mod Operators
pub mod Spell
