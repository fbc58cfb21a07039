-- A tree that is read, node by node.
pub mod FrameSteps
pub mod Grown
pub mod GrownNodes
pub mod KnownTree
pub mod LeafSteps
pub mod Loaded
pub mod LoaderSteps
pub mod MappingRead
pub mod NodeSteps
pub mod PlacedLists
pub mod RightNodes
pub mod ReachedLemmas
pub mod Steps
