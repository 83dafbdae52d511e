-- Test: what the test of a conditional comes to. Place: how far a text was read, and what its next statement comes to. Reading: what statements come to,
-- one and a list of them, as relations. Shown: the crate's own values as these see them.
pub mod Place
pub mod Reading
pub mod Shown
pub mod Test
