mod Added
mod Each
