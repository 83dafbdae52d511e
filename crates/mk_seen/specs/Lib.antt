-- Nodes: what a graph has under a number.
pub mod Nodes
-- Names: names of nodes, against names that are recorded.
pub mod Names
-- TextNames: names that are UTF-8.
pub mod TextNames
-- Marks: what the state has of each file of a node.
pub mod Marks
-- Seen: its prerequisites as they are judged.
pub mod Seen
-- Leaving: that none of its files is a reason to make it.
pub mod Leaving
