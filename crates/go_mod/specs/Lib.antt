-- the file go.mod
pub mod ModuleRules
pub mod ModuleLines
pub mod ModulePath
pub mod LanguageVersion
-- the files that count
pub mod Folders
pub mod Listing
-- what inner functions promise
pub mod ModuleFile
pub mod ModuleFolders
pub mod Seen
