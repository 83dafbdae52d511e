-- Names: which names of a rule can be told to the wide profile, and how they are spelled for it. Rules: what a rule says there. Items: what items say, one
-- behind the other. Shown: the crate's own values as these see them.
pub mod Items
pub mod Names
pub mod Rules
pub mod Shown
