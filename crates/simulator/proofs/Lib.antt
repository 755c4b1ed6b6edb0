-- Laws of the walk: its parts, its closed forms, the multiplier as a factor, its bounds, the exact float products, the max combo, the largest gain; and
-- what a loop over a map file keeps.
pub mod States
pub mod Walks
pub mod Objects
pub mod Bonus
pub mod Bounds
pub mod Exact
pub mod Sums
pub mod Gains
pub mod Points
pub mod Few
