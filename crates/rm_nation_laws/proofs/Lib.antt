mod Printed
mod Below
mod Policy
mod Hospitals
mod Roster
mod Groups
mod Drawn
