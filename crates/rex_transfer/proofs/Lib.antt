mod Deltas
mod Examples
mod Fronts
