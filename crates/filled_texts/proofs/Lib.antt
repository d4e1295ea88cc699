mod OneCheck
pub mod NotValid
pub mod Putting
pub mod ManyQuestions
pub mod Answered
pub mod Sound
pub mod Ends
pub mod Commands
pub mod Lines
pub mod OneRun
pub mod AskedProofs
