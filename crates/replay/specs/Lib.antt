pub mod Interface
pub mod InterfaceLaws
pub mod InterfaceTheorems
pub mod ReplyLaws
