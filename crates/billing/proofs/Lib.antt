mod Balance
mod Pools
mod Postings
