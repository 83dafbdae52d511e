pub mod Admission
pub mod Board
pub mod InTurn
pub mod Running
