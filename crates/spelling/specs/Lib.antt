pub mod InnerSpelling
