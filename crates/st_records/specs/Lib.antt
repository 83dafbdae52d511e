-- The model, to be read aloud:
-- what a record holds, whatever its kind
pub mod Parts
-- which form the records of a version have
pub mod Forms
-- a record's bytes in each form, and the fields that can be written
pub mod Encoding
-- the limits of each form, the faults of a record, and which records are good
pub mod Limits
-- what bytes have that begin with no good record
pub mod Faults
-- What private functions compute, and calls that st_packed alone makes, said step by step; of other contracts `Gives` alone is a
-- part:
-- the tests of a record, one by one
pub mod Tests
-- reading from the left
pub mod Reading
-- strings that could be names, as they are passed over
pub mod Clean
