mod InForce
mod Rows
