pub mod Laws
pub mod Signed
pub mod Layouts
pub mod ByteLists
pub mod Parts
pub mod Computed
pub mod Machine
