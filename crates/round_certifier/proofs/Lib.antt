pub mod RefusalLaws
pub mod CertifiedLaws
pub mod LookedLaws
