mod Rooms
mod Many
mod Closing
mod Ranges
