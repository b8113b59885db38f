-- What the proofs of several functions use.
mod Runs
mod Found
mod Line
mod Walking
mod Whole
mod Cut
mod Read
