pub mod Lines
pub mod Sources
