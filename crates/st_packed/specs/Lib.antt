-- What private fields and functions come to; of public contracts `record_from` alone is a part:
-- lists of strings in one piece of memory
pub mod Packed
-- a record as it is read
pub mod Event
