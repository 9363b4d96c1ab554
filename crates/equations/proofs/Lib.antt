pub mod Enclosed
pub mod Alike
