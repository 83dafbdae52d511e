-- Encoding is the model: marks as bytes, and when bytes are the text of a source and marks.
pub mod Encoding
-- Done: what a done record of version 4 says.
pub mod Done
-- Reading: what private functions compute, from the left; of public contracts no part, but the list that is seen of `Marks`.
pub mod Reading
-- Parts: what a text says as a value, and its marks by what they are of.
pub mod Parts
-- Told: marks in words.
pub mod Told
