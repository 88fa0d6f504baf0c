pub mod Position
pub mod InnerHalf
pub mod InnerAlways
pub mod Trials
