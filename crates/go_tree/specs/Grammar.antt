-- The grammar of Go files: its productions, what they read, and what is proved of them.
pub mod File
pub mod Declarations
pub mod Types
pub mod Expressions
pub mod Statements
pub mod Words
pub mod RightSide
pub mod Trees
pub mod Plain
pub mod Tables
