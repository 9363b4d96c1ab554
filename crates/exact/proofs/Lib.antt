pub mod Normaliser
pub mod Whole
pub mod Order
pub mod Vectors
pub mod Numbers
