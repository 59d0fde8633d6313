pub mod Described
pub mod Operator
pub mod Roles
pub mod Variables
pub mod Node
