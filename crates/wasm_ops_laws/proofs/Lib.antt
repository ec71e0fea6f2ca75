pub mod CodeAgain
pub mod CodeFinds
pub mod InitialAgain
pub mod InitialFinds
pub mod JoinedAgain
pub mod OpAgain
pub mod OpFinds
