pub mod Questions
pub mod ReadProblems
