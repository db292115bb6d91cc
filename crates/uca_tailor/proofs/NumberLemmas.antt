pub mod MarkLaws
pub mod SlotLaws
pub mod LevelLaws
pub mod RunLaws
pub mod TableLaws
