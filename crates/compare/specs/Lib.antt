pub mod Declares
pub mod Tabled
