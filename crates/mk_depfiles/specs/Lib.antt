-- Depfile: what the whole text names.
pub mod Depfile
-- Gathering: words as the code gathers them.
pub mod Gathering
-- Lines: the lines of the text, and which newlines end one.
pub mod Lines
-- Place: where the depfile of a target lies.
pub mod Place
-- Rule: what a line names.
pub mod Rule
-- Told: what a whole text names, as a relation.
pub mod Told
-- Words: what the words of a line are written for.
pub mod Words
-- Written: how the words of a line are written, as a relation.
pub mod Written
