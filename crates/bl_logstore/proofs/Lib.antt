mod LogLemmas
mod BatchLemmas
mod MapLemmas
mod EntryLemmas
mod NumberLemmas
mod NameLemmas
mod FolderLemmas
mod StandLemmas
mod CarryLemmas
mod CutLemmas
mod MomentLemmas
mod BarrierLemmas
mod OpenLemmas
mod OperationLemmas
mod ReplayLemmas
mod QuietLemmas
pub mod OtherLemmas
pub mod BehindLemmas
