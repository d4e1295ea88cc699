pub mod ValueParts
pub mod NameEntries
pub mod PutEntries
pub mod KnownEntries
pub mod Positions
pub mod HeldVariables
pub mod Operators
pub mod Gathering
pub mod NoVariables
pub mod ScopeNames
pub mod Meant
pub mod OperatorNames
pub mod Alone
pub mod BoundVariables
pub mod Stops
pub mod NamedUses
pub mod FoundAlone
pub mod LetBinding
pub mod MadeTerms
mod Marks
pub mod ValueLists
pub mod LetClosing
pub mod SortLists
pub mod AppliedSymbols
pub mod MacroArguments
mod DivisorLemmas
