pub mod BrokenRule
pub mod FirstBroken
pub mod Demands
