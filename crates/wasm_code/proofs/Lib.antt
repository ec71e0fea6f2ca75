pub mod OneOp
pub mod RunSteps
