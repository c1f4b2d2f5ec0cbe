pub mod Lists
pub mod Kept
pub mod Starts
pub mod Goes
pub mod Machines
