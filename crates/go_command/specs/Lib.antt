-- what the top call promises
pub mod Headline
pub mod Words
-- what inner functions promise each other
pub mod Runs
