pub mod AddressHeap
pub mod BirthHeap
pub mod Invariant
pub mod Edits
pub mod Effects
pub mod Transitions
pub mod First
pub mod Promises
