mod Digits
mod Runs
