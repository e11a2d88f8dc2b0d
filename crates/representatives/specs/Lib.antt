pub mod Representative
pub mod RepresentativeTheorems
pub mod Comparison
pub mod Fields
pub mod Search
pub mod CodeLaws
pub mod RepresentativeExample
