pub mod DoubtLaws
pub mod DoubtTheorems
