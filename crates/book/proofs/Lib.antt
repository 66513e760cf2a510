mod Calls
mod Paid
mod Posted
mod Supplies
mod Written
