pub mod Seek
pub mod Sequent
pub mod Written
