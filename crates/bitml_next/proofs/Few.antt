-- A call reads few files.
use Rattle.std.proofs.Common.{◌≡◌, ◌≤◌, suc, ◌+◌, length, map, Option, Some, None, option_map, refl, arith}
use Rattle.std.specs.Prelude.{IfSome}
use Rattle.std.proofs.lemmas.List.{length-map}
use Rattle.spec_data.specs.Ranges.{most_contracts}
use Rattle.spec_tool.specs.Commands.{contract_file}
use Rattle.spec_next.specs.NextAnswer.{NextCommand, begins, continues, next_files}
use Rattle.bitml_next.specs.Told.{seen, HasFew}
use Rattle.bitml_next.specs.declared.call.NextCall.{NextCall}

pub few_files : (c : NextCommand) → HasFew (Some c) → length (next_files c) ≤ most_contracts + 1
few_files (begins contract) h = omega arith
few_files (continues form party run contracts) h =
    let e = length-map contracts contract_file in
    let n : length (next_files (continues form party run contracts)) ≡ suc (length (map contract_file contracts)) = refl in
    omega (arith, e, n, h)

-- of the call that words are, if they are one
pub few_call : (call : Option NextCall) → HasFew (option_map seen call) → IfSome call (λ c. HasFew (Some (seen c)))
few_call None h = tt
few_call (Some call) h = h
