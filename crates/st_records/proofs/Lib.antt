pub mod Lengths
pub mod TestLemmas
pub mod Good
pub mod Fields
pub mod Records
pub mod Decoding
pub mod Unfinished
pub mod Stops
pub mod FaultLemmas
mod Low
pub mod Clean
