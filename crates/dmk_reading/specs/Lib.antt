-- Asked: what the words and MAKEFLAGS ask for.
pub mod Asked
-- Definitions: what is defined before the makefile is read.
pub mod Definitions
-- Keeping: whether state is kept.
pub mod Keeping
-- BuiltIn: the rules that are built in.
pub mod BuiltIn
-- Makefile: which file is the makefile.
pub mod Makefile
-- Lost: the nodes that aren't made for want of a name.
pub mod Lost
-- Passing: the nodes passed in order, and which are listed.
pub mod Passing
-- OldRules: what is left of items where the rules of some names are ignored.
pub mod OldRules
-- Planned: from the text of makefiles to a graph.
pub mod Planned
-- Faults: what a fault says that is met before a graph is made.
pub mod Faults
-- Base: what -p prints.
pub mod Base
-- StateName: which state is kept where none is named.
pub mod StateName
