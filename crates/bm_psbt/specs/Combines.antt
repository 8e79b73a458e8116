-- What is answered to two partially signed transactions, by the definition.
use Rattle.std.specs.Prelude.{◌≡◌, Result, Ok, Err}
use Rattle.spec_tool.specs.Psbt.{Psbt}
use Rattle.spec_tool.specs.PsbtBytes.{Discord, other_tx, conflict}
use Rattle.bm_psbt.specs.declared.fault.CombineError.{CombineError}
use Rattle.bm_psbt.specs.declared.fault.CombineError.TheVariants.{OtherTx, Conflict, Memory}

-- an error is that of the definition, unless memory ran out
abbrev pub Refuses : CombineError → Result Psbt Discord → Type 0
Refuses OtherTx answer = answer ≡ Err other_tx
Refuses (Conflict k) answer = answer ≡ Err (conflict k)
Refuses Memory answer = Unit {0}

-- what was returned is what the definition answers, unless memory ran out
abbrev pub Combines : Result Psbt CombineError → Result Psbt Discord → Type 0
Combines (Ok p) answer = answer ≡ Ok p
Combines (Err e) answer = Refuses e answer
