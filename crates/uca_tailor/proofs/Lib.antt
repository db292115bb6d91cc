pub mod Mapped
pub mod RowElements
pub mod PartLaws
pub mod RefusalLaws
pub mod PlanAudits
pub mod DraftLemmas
pub mod NumberLemmas
