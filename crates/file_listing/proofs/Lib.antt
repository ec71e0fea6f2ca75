pub mod Lacking
pub mod Headings
pub mod Bodies
pub mod Entries
