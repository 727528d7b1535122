-- what public contracts cite
pub mod Targets
pub mod Pieces
pub mod Answers
pub mod Texts
pub mod Files
-- what is still to be read, and what a token makes of it
pub mod Machine
-- the grammar as tables
pub mod Tables
