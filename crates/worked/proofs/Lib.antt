mod Drafts
mod Verdicts
mod OneHouse
mod TwoHouses
mod ThreeHouses
mod Quantities
