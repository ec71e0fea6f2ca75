mod FirstExports
mod Resolved
pub mod Named
