-- What is read of a tree: the text of go.mod and those of Go files.
pub mod Reading
pub mod Calls
pub mod ModuleTexts
pub mod ReadTexts
pub mod ReadSources
