pub mod HostCodes
pub mod Recovery
