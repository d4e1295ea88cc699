pub mod CommandLine
pub mod Requests
pub mod Made
pub mod Found
