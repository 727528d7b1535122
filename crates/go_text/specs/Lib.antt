pub mod Files
pub mod Faults
pub mod Copies
pub mod CopyCount
pub mod Numbers
