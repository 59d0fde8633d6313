pub mod All
pub mod Choice
pub mod Pairwise
pub mod Over
pub mod Below
pub mod Different
pub mod Sum
