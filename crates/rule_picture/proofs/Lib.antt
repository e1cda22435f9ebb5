mod Counting
mod Cubes
mod Inserted
mod Joined
