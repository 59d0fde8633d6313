pub mod Machine
pub mod Operator
pub mod Described
pub mod Node
