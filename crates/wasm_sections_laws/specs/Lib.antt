pub mod Framed
pub mod Written
