mod ApartTerms
mod NameLists
mod NumberNames
mod Plans
mod ClosedTerms
mod UsesLemmas
mod MarkLemmas
