pub mod Printed
pub mod Outcomes
pub mod OwnTexts
pub mod TopCall
pub mod Exactness
pub mod Answering
pub mod Finishing
pub mod Settings
