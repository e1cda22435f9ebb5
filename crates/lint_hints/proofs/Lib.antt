mod Members
mod OfTexts
mod Pushed
mod Taken
mod Told
