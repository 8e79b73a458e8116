-- Why a file of secrets is refused, as a text.
use Rattle.std.specs.Prelude.{ℕ, List, ◌++◌, codes}
use Rattle.std.specs.Fmt.{decimal}
use Rattle.spec_text.specs.RunText.{newline}
use Rattle.spec_deal.specs.declared.fault.SecretReason.{SecretReason}
use Rattle.spec_deal.specs.declared.fault.SecretReason.TheVariants as reasons
use Rattle.spec_deal.specs.declared.fault.SecretFault.{SecretFault}
use Rattle.spec_deal.specs.declared.fault.SecretFault.TheVariants as faults

abbrev pub reason_text : SecretReason → List ℕ
reason_text reasons.Form = codes "form"
reason_text reasons.Foreign = codes "foreign"
reason_text reasons.Value = codes "value"
reason_text (reasons.Repeated line) = codes "repeated " ++ decimal line
reason_text reasons.Length = codes "length"
reason_text reasons.Hash = codes "hash"

abbrev pub fault_text : SecretFault → List ℕ
fault_text faults.Size = codes "size"
fault_text (faults.Line n reason) = codes "line " ++ (decimal n ++ (codes " " ++ reason_text reason))

abbrev pub refused_line : SecretFault → List ℕ
refused_line fault = codes "secrets refused " ++ (fault_text fault ++ newline)
