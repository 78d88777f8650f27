pub mod SearchLemmas
pub mod HeightLemmas
pub mod NumberLemmas
pub mod Rising
