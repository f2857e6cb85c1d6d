mod Copies
mod Outcomes
mod Pages
mod Parts
