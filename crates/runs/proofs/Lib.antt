pub mod OneMore
pub mod Living
pub mod Alike
