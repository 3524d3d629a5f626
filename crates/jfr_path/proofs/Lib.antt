mod ChosenLaws
mod EventLaws
pub mod FollowLaws
mod LeadingLaws
mod ListLaws
mod NameLaws
mod StepLaws
mod StringLaws
mod TextLaws
mod TextVerdictLaws
mod ThreadLaws
mod TimeLaws
mod UntimedLaws
mod VerdictLaws
mod WindowLaws
