-- The strings of a slice ..
pub mod StringsLaws
-- .. chains over them ..
pub mod PackedLaws
-- .. and the laws of src/covering.rt.
pub mod CoveringLaws
