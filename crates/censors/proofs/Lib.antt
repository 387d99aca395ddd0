pub mod Replays
mod Names
