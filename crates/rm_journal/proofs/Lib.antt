mod Checked
mod InMarket
mod Owned
mod Read
