pub mod NumberSteps
pub mod Loop
mod Texts
mod SignedSteps
pub mod ReadAgain
pub mod ReadFinds
