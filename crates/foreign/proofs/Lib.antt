mod Calling
mod Values
mod Places
