pub mod Auth
