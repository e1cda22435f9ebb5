mod Chosen
mod Courses
mod Pushed
mod Turned
mod Stopping
mod Replays
