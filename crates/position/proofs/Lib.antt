mod Fronts
mod Steps
mod Answering
