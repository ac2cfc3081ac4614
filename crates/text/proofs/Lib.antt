pub mod InputLaws
pub mod PrintedLaws
pub mod PutsLaws
pub mod DecodedLaws
pub mod LinesLaws
pub mod RoomLaws
pub mod ListingsLaws
pub mod ProgramLaws
