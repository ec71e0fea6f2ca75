pub mod Headed
