mod Answered
mod Listed
mod Parameters
mod Released
mod Rooted
mod Setters
pub use Rattle.glue_ends.proofs.Prefixes
