-- The names of a package: blocks, what is declared in them, what occurs, and what it denotes.
pub mod Blocks
pub mod Exported
pub mod Universe
pub mod Inner
pub mod Declarations
pub mod PackageBlock
pub mod Imports
pub mod Occurrences
pub mod Regions
pub mod Iotas
pub mod Tables
pub mod Rules
