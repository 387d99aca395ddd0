pub mod Digits
mod Words
mod Tables
pub mod Laws
mod Passings
