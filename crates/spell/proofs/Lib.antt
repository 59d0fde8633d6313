pub mod Capped
pub mod Written
pub mod Nodes
pub mod Defined
pub mod Moves
pub mod Witnesses
pub mod Entries
pub mod Room
