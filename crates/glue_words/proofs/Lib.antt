pub mod Among
pub mod Belonging
pub mod Braces
pub mod ByKind
pub mod Computing
pub mod Edges
pub mod Fitting
pub mod Idents
pub mod Joined
pub mod Linked
pub mod ListFacts
pub mod Lists
mod LiteralReads
pub mod LocalFacts
pub mod NoteFacts
mod NoteSteps
pub mod Spaced
