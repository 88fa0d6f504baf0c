pub mod InnerWords
