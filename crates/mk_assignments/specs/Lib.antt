-- Sign: the signs of definitions. Name: the name in front of one, as a relation. Reading: names, signs and values, as they are read. Definition:
-- what a text defines, as a relation. Line: what a line says of variables, as a relation. Steps: what is read of it, word by word.
pub mod Definition
pub mod Line
pub mod Name
pub mod Reading
pub mod Sign
pub mod Steps
