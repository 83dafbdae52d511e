pub mod Chains
pub mod Ends
pub mod Hashing
pub mod Links
pub mod Names
