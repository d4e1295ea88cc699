mod MoreAssertions
mod OneCore
mod OneCheck
mod HoleRules
mod Saying
mod EachCommand
mod NoPivots
mod LeftSpelled
