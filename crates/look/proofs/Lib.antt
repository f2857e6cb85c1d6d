mod Separators
mod Versions
mod Answered
