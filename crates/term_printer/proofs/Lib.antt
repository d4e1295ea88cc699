mod GivenNames
mod Pieces
mod TermParts
mod SingleTasks
mod Turns
mod PlainNames
mod Rows
