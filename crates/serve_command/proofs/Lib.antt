mod TakeLaws
mod ServeLaws
mod AnswerLaws
mod EndLaws
