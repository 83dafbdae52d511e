pub mod Earlier
pub mod Making
pub mod Serving
