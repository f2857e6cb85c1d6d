mod Walk
mod Marks
mod Ordered
