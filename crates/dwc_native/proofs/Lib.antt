pub mod LabelRangeLaws
pub mod LabelRangeCoverage
pub mod LabelRangeMaximal
pub mod LabelRangeUnique
