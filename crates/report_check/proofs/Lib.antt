mod Gathering
mod Once
