pub mod LockHolders
