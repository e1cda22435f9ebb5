mod Spaced
