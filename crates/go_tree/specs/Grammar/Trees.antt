-- Which tokens have which tree.
pub mod Sentence
pub mod Reading
pub mod Fronts
pub mod Spans
pub mod TypeTrees
