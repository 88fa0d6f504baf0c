pub mod Widened
pub mod Scatterers
pub mod Segments
