pub mod Places
pub mod ClassKeys
pub mod EqualNumbers
pub mod Visits
pub mod Walking
pub mod Finding
pub mod FirstPlaces
