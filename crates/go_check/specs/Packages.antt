-- Packages, one after another: their names, the rulebook over them, the verdicts on them.
pub mod Names
pub mod Book
pub mod Verdicts
pub mod State
