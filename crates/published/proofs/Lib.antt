pub mod Requests
pub mod Enabled
pub mod Engine
pub mod Behaviours
pub mod Advance
