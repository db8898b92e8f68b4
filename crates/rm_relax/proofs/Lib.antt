mod Groups
mod Placements
