-- the tokens of a text, and the fault where none starts
pub mod Lexical
-- which tokens have which tree, and how high they stand
pub mod Grammar
pub mod Height
-- trees
pub mod Tree
pub mod Find
