mod TaskGoals
mod Whys
