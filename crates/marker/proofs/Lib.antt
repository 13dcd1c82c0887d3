mod Again
mod Entries
mod Ends
mod Keeping
mod Tabled
