-- The laws behind the root by a guess.
mod Confirmed
mod Numbers
