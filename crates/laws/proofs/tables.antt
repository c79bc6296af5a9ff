-- Tables: the starred examples, the programs that are shut out, and inputs that meet the hypotheses.
pub mod Controls
pub mod ControlsOfAll
pub mod Witnesses
pub mod BlockWitnesses
pub mod BlockControls
pub mod PlaceWitnesses
pub mod DateWitnesses
pub mod PackControls
pub mod PackWitnesses
pub mod RoomWitnesses
pub mod Starred
