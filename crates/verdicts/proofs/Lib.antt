pub mod TraceRenamed
pub mod RunRenamed
