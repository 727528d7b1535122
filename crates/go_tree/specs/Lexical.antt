-- Lexical elements (Go specification): which tokens a text has.
pub mod Scan
pub mod Tokens
pub mod Faults
pub mod Semicolons
pub mod Characters
pub mod Comments
pub mod Numbers
pub mod Literals
pub mod LiteralValues
