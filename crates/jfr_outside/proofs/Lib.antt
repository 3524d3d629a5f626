pub mod HeldLaws
mod NameLaws
mod ScriptLaws
