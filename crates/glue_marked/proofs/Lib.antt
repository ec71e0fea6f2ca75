mod FactRows
mod MarkedLimits
mod MarkedLiterals
mod MarkedPlaces
mod MarkedReading
mod MarkedRows
mod MarkedSteps
mod MarkedTexts
pub mod Reading
pub mod Renamed
pub mod ShippedFacts
pub mod Spread
pub mod StandIns
