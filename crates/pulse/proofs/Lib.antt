mod Totals
mod Trees
mod Sound
mod Bits
mod Arrivals
mod Loadings
mod Ends
mod Tables
mod Beginnings
pub mod Invariants
pub mod Lawfulness
mod Rings
mod Answered
