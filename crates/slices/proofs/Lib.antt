pub mod EverySecondLaws
pub mod BlocksLaws
pub mod RefusalsLaws
