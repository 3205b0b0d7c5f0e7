mod Goodness
mod Largest
