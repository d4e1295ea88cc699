pub mod Lists
pub mod Places
pub mod Keys
pub mod Links
pub mod Tables
pub mod Laws
pub mod Adds
pub mod Functions
pub mod Declares
pub mod KindLemmas
mod KeyLists
