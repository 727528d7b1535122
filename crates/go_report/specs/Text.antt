-- The text of a report: its lines, the places, types and values in them, and its summary.
pub mod Lines
pub mod Places
pub mod Summary
pub mod Types
