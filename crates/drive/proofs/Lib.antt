mod Asking
mod Running
