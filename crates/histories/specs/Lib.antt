pub mod Calls
pub mod Promise
pub mod Refusals
