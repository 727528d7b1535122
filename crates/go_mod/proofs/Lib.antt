pub mod AsciiLemmas
pub mod DeclaredLemmas
pub mod ListedLemmas
pub mod ListingLemmas
pub mod ModuleFolderLemmas
pub mod ModuleLineLemmas
