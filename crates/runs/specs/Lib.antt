pub mod Answer
pub mod Run
pub mod RunRecordLaws
pub mod Opening
pub mod TraceLaws
pub mod Judging
pub mod CodeLaws
