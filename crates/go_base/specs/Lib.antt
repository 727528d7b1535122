-- what public contracts cite
pub mod Place
pub mod Rule
pub mod Status
pub mod Counters
pub mod Tree
pub mod Sink
pub mod MemTree
pub mod MemSink
pub mod Lines
