mod TextLengths
mod FewAssertions
mod PrunedOver
mod Asserted
mod ReadAgain
mod Ends
mod Lines
