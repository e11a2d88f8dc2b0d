pub mod SearchLaws
pub mod EntriesLaws
