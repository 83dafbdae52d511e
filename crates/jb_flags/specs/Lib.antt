pub mod Handed
pub mod Jobs
pub mod Told
pub mod Words
pub mod Workers
