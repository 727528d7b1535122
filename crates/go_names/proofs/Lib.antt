pub mod InnerLemmas
pub mod WalkLemmas
pub mod MemberLemmas
