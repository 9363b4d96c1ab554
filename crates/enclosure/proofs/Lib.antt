pub mod Steps
pub mod Rounding
pub mod Holding
pub mod Reciprocals
pub mod Enclosing
pub mod Alike
pub mod Fitting
pub mod Keeping
