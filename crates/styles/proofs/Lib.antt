mod Floats
mod Heights
