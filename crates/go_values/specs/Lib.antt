-- the values of declarations: what is known of them, and which rules they break
pub mod Declared
pub mod Records
pub mod Headers
pub mod Waiting
pub mod Rules
pub mod ByValue
pub mod Laws
