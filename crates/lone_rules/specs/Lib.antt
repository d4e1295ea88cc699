pub mod LoneRules
pub mod Asking
