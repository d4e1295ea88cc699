pub mod Lists
pub mod Giving
pub mod Seating
pub mod EventLemmas
