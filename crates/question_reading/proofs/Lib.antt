mod CellTrees
mod LeftOut
mod ReadQuestions
