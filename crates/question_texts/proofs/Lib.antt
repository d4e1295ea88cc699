mod FewNames
mod AskedSorts
mod AskedNames
mod Found
mod PrintableAsked
mod ReadSorts
mod ReadCommands
mod ReadBack
