-- Course: which lines are a recipe's. Cut: lines without their comments. Logical: the texts of logical lines. Told: what a line says.
-- Reading: the statements of a text.
pub mod Course
pub mod Cut
pub mod Logical
pub mod Reading
pub mod Told
