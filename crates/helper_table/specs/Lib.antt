pub mod Closed
pub mod Laws
pub mod Made
pub mod Names
pub mod Numbers
pub mod Prints
pub mod Told
