pub mod RenameRun
pub mod RunBehaviour
pub mod RunProperties
pub mod VerdictTheorems
pub mod Examples
pub mod RenameExample
