mod InputsWithin
mod WiredLaws
mod PromiseLaws
