pub mod Asking
pub mod Replies
pub mod Filled
pub mod ToFill
pub mod Printed
pub mod Examples
