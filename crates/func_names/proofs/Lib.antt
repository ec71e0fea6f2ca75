mod Counted
mod Renamed
