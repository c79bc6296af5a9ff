-- What the proofs of several functions use.
mod Answering
mod Running
