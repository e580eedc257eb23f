pub mod CauseLaws
pub mod CertifyLaws
