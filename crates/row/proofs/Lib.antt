mod AtLines
mod Empty
mod KeepsLaw
mod Fitness
