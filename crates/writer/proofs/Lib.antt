pub mod ReadingBack
pub mod WriterRows
