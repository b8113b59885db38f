-- What the proofs of several functions use.
mod Bytes
mod Texts
mod Answer
mod Session
mod Whole
