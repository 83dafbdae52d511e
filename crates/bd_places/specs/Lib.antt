pub mod Placed
pub mod Places
pub mod Settling
pub mod Tally
