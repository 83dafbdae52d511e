-- NeverStuck is the law; it speaks of the moves that stand in Moves, and of what is left in Left.

-- one call of a board, or many
pub mod Moves
-- what is still to be done of each node
pub mod Left
-- the law, over every list of moves
pub mod NeverStuck
-- the edges of which it speaks
pub mod Graphs
