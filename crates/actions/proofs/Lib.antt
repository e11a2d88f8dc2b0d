pub mod ActionNumbers
pub mod NamedMember
