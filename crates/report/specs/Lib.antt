pub mod Labels
pub mod Lines
pub mod Printed
pub mod PieceLists
pub mod Reasons
