mod Firsts
mod Outcomes
mod Pushed
mod Starts
mod Straying
mod Told
