mod Chosen
mod Held
mod Lists
mod Stored
