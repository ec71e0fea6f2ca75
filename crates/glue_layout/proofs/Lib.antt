pub mod Stripped
pub mod Laying
pub mod Rows
pub mod Characters
pub mod Parts
