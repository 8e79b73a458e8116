-- A transaction of a deal for signers, by what is known of its inputs.
use Rattle.std.specs.Prelude.{ℕ, List, [], map, not, is_some, if◌then◌else◌, Option, Some, None}
use Rattle.spec_tool.specs.declared.psbt.PsbtInput.{PsbtInput}
use Rattle.spec_tool.specs.Psbt.{Psbt}
use Rattle.spec_deal.specs.declared.transaction.Input.{Input}
use Rattle.spec_deal.specs.declared.transaction.Transaction.{Transaction}

-- the script that an input's key signs, if a key does
abbrev pub signed_script : Input → Option (List ℕ)
signed_script input = if is_some input.wallet then None else Some input.spent.script

abbrev pub input_for : Input → PsbtInput
input_for input =
    record { spent = Some input.output; partial = []; all = not (is_some input.wallet); script = signed_script input; witness = None }

abbrev pub psbt_for : Transaction → Psbt
psbt_for t = record { tx = t.tx; inputs = map input_for t.inputs }
