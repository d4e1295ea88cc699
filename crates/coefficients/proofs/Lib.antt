pub mod LowestTerms
pub mod FigureValues
pub mod CoefficientLists
pub mod ListShapes
pub mod WordKinds
pub mod AmountLemmas
pub mod QuotientReading
