pub mod Entry
pub mod Numbers
pub mod Sequent
pub mod Listed
pub mod Required
pub mod Order
pub mod Formed
pub mod Forms
