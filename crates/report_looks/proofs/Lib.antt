mod Silent
mod Spanned
mod Printed
mod RunMoments
pub mod Sightings
mod Statuses
mod LastMoments
