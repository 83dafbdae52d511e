pub mod Known
pub mod Ordering
pub mod Required
pub mod Rows
