pub mod InnerWindow
