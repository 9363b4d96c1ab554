pub mod Ring
pub mod Numbers
pub mod Vectors
