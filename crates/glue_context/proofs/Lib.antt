mod ClosureFacts
mod ClosureNames
mod Common
mod Declared
mod DefinedFacts
pub mod Edited
mod Entries
mod ExpressionFits
mod ExpressionNames
pub mod Facts
mod Fits
mod FrameRead
mod HandedParts
mod HandingFacts
mod HeldNames
mod ImportBound
mod ImportedFacts
mod ImportedNames
mod ListedFacts
mod Lists
pub mod Made
mod OwnPaths
mod Paths
mod Provided
mod TreeFacts
mod TreeNames
