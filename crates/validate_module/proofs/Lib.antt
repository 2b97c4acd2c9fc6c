pub mod ImageLaws
pub mod OwnLaws
