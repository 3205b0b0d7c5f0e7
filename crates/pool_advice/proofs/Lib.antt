mod Alone
mod Giving
mod Finding
