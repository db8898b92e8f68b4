mod Turns
mod Ended
