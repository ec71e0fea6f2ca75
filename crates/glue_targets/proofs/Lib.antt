pub mod FixedTexts
pub mod FrameEnd
pub mod RefusedItems
