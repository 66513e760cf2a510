mod Asking
mod Exact
mod Lines
mod Once
