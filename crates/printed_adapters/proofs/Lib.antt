pub mod Choices
pub mod FirstPlaces
pub mod Least
pub mod Making
pub mod OwnNames
pub mod PrintedEnums
pub mod PrintedRoom
pub mod Used
