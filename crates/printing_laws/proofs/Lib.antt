mod SortedTerms
mod SortedOver
mod SameFrames
