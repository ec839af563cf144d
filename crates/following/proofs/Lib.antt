mod Words
mod Steps
mod Taken
mod Places
