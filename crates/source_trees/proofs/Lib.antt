pub mod Equations
pub mod Highest
pub mod HeightForms
pub mod BareForms
