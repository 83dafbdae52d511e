-- Written: what a name hands to a hasher.
pub mod Written
-- Ends: what the first and last bytes of names tell.
pub mod Ends
