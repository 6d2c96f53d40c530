pub mod AloneLaws
pub mod BuildLaws
pub mod CodeLaws
mod CompileLaws
pub mod CopyLaws
pub mod CutLaws
pub mod CutWalkLaws
mod EmitLaws
pub mod ExpressionLaws
pub mod FilledLaws
pub mod FirstLaws
pub mod FlatPlaces
pub mod FrontLaws
pub mod GatherLaws
mod JoinedLaws
pub mod JumpLaws
mod KnownLaws
pub mod LabelLaws
mod LandingLaws
pub mod OverIntervalLaws
pub mod MadeLaws
pub mod NarrowLaws
pub mod PairLaws
mod PartWalk
pub mod PassedLaws
pub mod PieceLaws
pub mod PlaceRefusals
pub mod RangeLaws
pub mod RefusalLaws
pub mod ScopeLaws
pub mod SettingLaws
pub mod ShortLaws
pub mod StayLaws
pub mod VaryingLaws
mod StepLaws
mod WholeLaws
pub mod Meaning
