pub mod InnerPlaced
