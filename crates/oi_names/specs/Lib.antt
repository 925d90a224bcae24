pub mod Grammars
pub mod Names
pub mod Portals
pub mod Reaches
