-- What the proofs of several functions use.
mod Cut
mod Shown
