pub mod ThreadLines
