pub mod Places
pub mod FramesInside
