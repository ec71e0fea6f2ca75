pub mod Caught
pub mod Places
pub mod Printed
