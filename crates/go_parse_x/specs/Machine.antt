-- The machine: what is still to be read, and what the next token makes of it.
pub mod Turns
pub mod Ends
pub mod Steps
pub mod Heights
pub mod Weights
pub mod Braces
