-- Near: which names are near to another one.
pub mod Near
