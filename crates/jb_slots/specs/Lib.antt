pub mod Tokens
pub mod Slots
pub mod End
