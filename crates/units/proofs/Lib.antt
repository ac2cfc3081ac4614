-- The laws after the tests of same and different.
pub mod UnitsLaws
