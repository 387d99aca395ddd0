pub mod Gathered
mod Held
