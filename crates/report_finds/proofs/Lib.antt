mod Looking
mod Meeting
mod Printed
