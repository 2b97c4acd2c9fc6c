mod Counted
mod Sure
