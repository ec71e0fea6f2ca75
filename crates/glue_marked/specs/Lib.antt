pub mod LiteralAt
pub mod Marked
pub mod Reads
pub mod StandIns
