pub mod InnerPacked
