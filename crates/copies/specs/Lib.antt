pub mod InnerCopied
