mod Answered
mod Separators
