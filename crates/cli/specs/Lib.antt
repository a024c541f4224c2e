pub mod Asking
pub mod Program
pub mod Running
pub mod Serving
