pub mod FramesAgain
pub mod WrittenFrames
