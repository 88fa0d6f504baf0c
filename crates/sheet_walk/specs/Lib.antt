pub mod InnerShape
