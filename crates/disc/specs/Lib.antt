pub mod Meaning
pub mod Plain
