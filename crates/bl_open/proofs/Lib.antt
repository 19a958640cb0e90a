mod BatchLemmas
mod LeftLemmas
pub mod CutLemmas
pub mod FrameLemmas
mod WriteLemmas
mod InstallLemmas
mod SettleLemmas
mod SoundLemmas
mod FollowLemmas
mod RestingLemmas
mod StayLemmas
mod RestoreLemmas
mod SyncLemmas
mod FoundLemmas
mod BeginLemmas
mod MomentLemmas
mod OutcomeLemmas
mod TouchLemmas
mod NamingLemmas
pub mod DrawnLemmas
pub mod FlushedFiles
mod ReadLemmas
pub mod ReplayLemmas
mod TableLemmas
mod StartLemmas
mod LoadedLemmas
mod BreakLemmas
mod CheckLemmas
mod DamageLemmas
mod ExpectedLemmas
mod ListingLemmas
mod TextLemmas
mod WholeLemmas
mod RefusalLemmas
mod FromLemmas
mod AnswerLemmas
mod StartingLemmas
mod OpenedLemmas
mod CountLemmas
mod AddLemmas
mod KeepLemmas
mod OneMemory
mod FullLemmas
pub mod SyncedLemmas
mod LeavingLemmas
