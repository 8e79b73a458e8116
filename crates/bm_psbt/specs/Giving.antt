-- What a reader of code answers, by the reader of the definitions that it follows.
use Rattle.std.specs.Prelude.{◌≡◌, Result, Ok, Err, Option, Some, None}
use Rattle.bm_psbt.specs.declared.fault.PsbtError.{PsbtError}
use Rattle.bm_psbt.specs.declared.fault.PsbtError.TheVariants.{BadPsbt, Memory}

-- the definition reads nothing, unless memory ran out
abbrev pub Fails : {Y : Type 0} → PsbtError → Option Y → Type 0
Fails Memory read = Unit {0}
Fails BadPsbt read = read ≡ None

-- what was returned, seen by a view, is what the definition reads, unless memory ran out
abbrev pub Reads : {X Y : Type 0} → (X → Y) → Result X PsbtError → Option Y → Type 0
Reads view (Ok x) read = read ≡ Some (view x)
Reads view (Err e) read = Fails e read
