pub mod ConfigLaws
pub mod StillLaws
pub mod VerdictLaws
