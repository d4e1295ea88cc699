mod TextsInstead
mod MadeLemmas
mod ElaboratedTexts
mod WrittenElaborations
mod AnyPool
mod ClosedTruths
