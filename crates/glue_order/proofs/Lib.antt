pub mod Arranged
pub mod ClassPlaces
pub mod Inside
pub mod LongWalks
pub mod Parents
pub mod Sweeps
