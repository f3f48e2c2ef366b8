pub mod HookedParts
