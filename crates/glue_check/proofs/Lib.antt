mod Operands
pub mod BuiltForm
pub mod Callbacks
pub mod Complete
pub mod Conditions
pub mod Embedded
pub mod FaultKinds
pub mod ListNames
pub mod NoClass
pub mod OwnPairs
pub mod Passed
pub mod Steps
