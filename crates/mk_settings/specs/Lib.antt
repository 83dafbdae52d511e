-- The model is Goals and Marks, whose computed parts are what the code does. Laws say that they come to the same.
pub mod Goals
pub mod Marks
pub mod Pools
pub mod Settled
