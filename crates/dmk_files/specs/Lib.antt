-- Files: what the system says of a file.
pub mod Files
-- Commands: what is known of commands that definitions ran.
pub mod Commands
-- Listings: what is known of folders.
pub mod Listings
-- Stamps: the looks at files that are known so far.
pub mod Stamps
-- Told: what is told of a file by what is kept of it.
pub mod Told
-- Fits: what is known of names, and what it may come from.
pub mod Fits
