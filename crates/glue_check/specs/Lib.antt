pub mod Answers
pub mod Classes
pub mod FaultKinds
pub mod Links
pub mod Missing
pub mod TargetValues
pub mod Unbuilt
pub mod Verdict
