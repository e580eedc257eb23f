pub mod FrontLaws
pub mod ByteLaws
pub mod TalkLaws
pub mod RequestLaws
