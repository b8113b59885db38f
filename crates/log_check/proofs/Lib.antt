-- What the proofs of several functions use.
mod Word
mod Report
mod Read
