pub mod FreePlaces
pub mod OwnPlaces
