pub mod Sets
pub mod Passing
