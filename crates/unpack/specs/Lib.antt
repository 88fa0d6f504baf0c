pub mod InnerLaid
