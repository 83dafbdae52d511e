pub mod Agreement
pub mod Closing
pub mod Last
pub mod Marking
pub mod Report
