-- The model of a side is Layout, Batch and Side; Answer and Sink only say what calls answer and take in.

-- taking in records one after another
pub mod Sink
-- the header: name, versions, generation
pub mod Layout
-- a batch's bytes, its frame and what may stand in it
pub mod Batch
-- what the bytes of a side say, and each fault
pub mod Side
-- what a call answered, as a reading
pub mod Answer
-- a text put behind a closed gate
pub mod Gated
-- a side that is created
pub mod Created
-- what one more batch makes of a side
pub mod Grown
-- what is in memory of a side that is read forward
pub mod Window
