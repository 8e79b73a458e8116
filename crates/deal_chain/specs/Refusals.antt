-- Why a chain file is refused, as a text.
use Rattle.std.specs.Prelude.{ℕ, List, ◌++◌, codes}
use Rattle.std.specs.Fmt.{decimal}
use Rattle.spec_text.specs.RunText.{newline}
use Rattle.spec_chain.specs.declared.fault.ChainReason.{ChainReason}
use Rattle.spec_chain.specs.declared.fault.ChainReason.TheVariants as reasons
use Rattle.spec_chain.specs.declared.fault.ChainFault.{ChainFault}
use Rattle.spec_chain.specs.declared.fault.ChainFault.TheVariants as faults

abbrev pub at_input : List ℕ → ℕ → List ℕ
at_input word input = word ++ (codes " " ++ decimal input)

abbrev pub reason_text : ChainReason → List ℕ
reason_text reasons.Form = codes "form"
reason_text reasons.Height = codes "height"
reason_text reasons.Tx = codes "tx"
reason_text (reasons.Input k) = at_input (codes "input") k
reason_text (reasons.Foreign k) = at_input (codes "foreign") k
reason_text reasons.Lock = codes "lock"
reason_text (reasons.Witness k) = at_input (codes "witness") k
reason_text reasons.Branch = codes "branch"

abbrev pub fault_text : ChainFault → List ℕ
fault_text faults.Size = codes "size"
fault_text (faults.Line n reason) = codes "line " ++ (decimal n ++ (codes " " ++ reason_text reason))

abbrev pub refused_text : ChainFault → List ℕ
refused_text fault = codes "chain refused " ++ (fault_text fault ++ newline)
