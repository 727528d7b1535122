-- Packages: from heads and trees to the module.
pub mod Trees
pub mod Strings
pub mod PathSets
pub mod CyclicImports
pub mod Made
pub mod SourceFiles
pub mod Placing
pub mod Assembly
