-- How a store answers what the system answered.
use Rattle.std.specs.Prelude.{◌≡◌, ◌≢◌, Result, Ok, Err}
use Rattle.std.specs.IoError.{error_kind}
use Rattle.std.specs.declared.io.Error.{Error}
use Rattle.std.specs.declared.io.ErrorKind.TheVariants.{OutOfMemory}
use Rattle.oi_outside.specs.declared.store_error.StoreError.{StoreError}
use Rattle.oi_outside.specs.declared.store_error.StoreError.TheVariants.{Failed, Memory}

-- a value is passed on, and an error is a failure, unless memory was wanted
abbrev pub PassesOn : {T : Type 0} → Result T Error → Result T StoreError → Type 0
PassesOn (Ok x) r = r ≡ Ok x
PassesOn (Err e) r = (error_kind e ≡ OutOfMemory → r ≡ Err Memory) × (error_kind e ≢ OutOfMemory → r ≡ Err Failed)
