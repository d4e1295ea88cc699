pub mod Printed
pub mod Stages
pub mod Steps
pub mod Places
pub mod Printing
