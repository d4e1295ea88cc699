mod AnswerLemmas
mod OneAnswer
mod Outcomes
mod Exact
mod Finishing
mod FilesInstead
