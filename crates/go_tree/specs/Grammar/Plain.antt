-- Plain lines: productions as the Go specification has them, before they are factored so that one token decides.
pub mod Lists
pub mod Declarations
pub mod Types
pub mod Expressions
pub mod Statements
pub mod Lines
