pub mod Commands
pub mod Cutting
pub mod Digits
pub mod Filling
pub mod Lengths
pub mod Runs
pub mod WholeTexts
