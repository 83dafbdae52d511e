-- The model is ByName, Implicit and Supported, with Doubles, InForce, Source and Taken. Forms and Tests are what the code does; laws say
-- that what they tell comes to the same.
pub mod ByName
pub mod Doubles
pub mod Forms
pub mod Implicit
pub mod InForce
pub mod Kinded
pub mod Named
pub mod Order
pub mod Source
pub mod Supported
pub mod Table
pub mod Taken
pub mod Tests
