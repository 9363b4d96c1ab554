pub mod Equations
pub mod Parts
pub mod Truth
pub mod Mapped
