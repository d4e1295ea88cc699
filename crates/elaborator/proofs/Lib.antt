mod OldLines
mod Names
mod Seeing
mod Rooms
pub mod AddedRules
mod Tidy
mod Extending
mod Levels
pub mod Sourcing
mod InPlace
pub mod AddedSources
mod Standing
mod Closing
mod OpenedScopes
mod StandingSteps
mod ClosingSteps
pub mod ClosedOnce
mod BlockLists
mod Adding
mod OpenCalls
mod FoundSources
mod WritingCalls
mod WrittenSteps
pub mod MadeBlocks
mod ByChunks
