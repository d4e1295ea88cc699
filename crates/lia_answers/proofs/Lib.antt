mod Asserted
mod Lists
mod Room
mod Replies
