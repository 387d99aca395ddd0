pub mod Places
pub mod Staying
pub mod Kept
pub mod Moving
