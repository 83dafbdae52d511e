-- what a disk that fails calls by a plan makes of a call
pub mod Planned
