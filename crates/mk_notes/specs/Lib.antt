pub mod BuiltIn
pub mod Leading
pub mod Names
pub mod Notes
pub mod References
pub mod Statements
pub mod Undefined
