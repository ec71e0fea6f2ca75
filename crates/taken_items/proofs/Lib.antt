pub mod ItemNames
mod Joined
