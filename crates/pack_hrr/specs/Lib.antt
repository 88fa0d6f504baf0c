pub mod InnerNarrowed
