-- The model is Comments, Spelled, Grammar, Special and Statements, over the lines of mk_lines; Form is what the code does.
-- Blanks: how a line is told that has blanks in front.
pub mod Blanks
-- BuiltIn: the name of the rules that are built in.
pub mod BuiltIn
-- Comments: what a line holds without its comment.
pub mod Comments
-- Directive: words that begin lines of GNU make, and how such a line is told.
pub mod Directive
-- Fault: how faults name what isn't supported.
pub mod Fault
-- Form: the form of a line, branch by branch.
pub mod Form
-- Grammar: what a line is, and why it is refused.
pub mod Grammar
-- Plain: rule lines without any sign but a colon.
pub mod Plain
-- Printed: how plain items are printed.
pub mod Printed
-- Recipe: how the lines of a recipe are held.
pub mod Recipe
-- Special: the special names.
pub mod Special
-- Spelled: how include lines, definitions and rules are spelled.
pub mod Spelled
-- Statements: what the lines of a file say.
pub mod Statements
