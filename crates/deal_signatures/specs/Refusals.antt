-- Why a file of signatures is refused, as a text.
use Rattle.std.specs.Prelude.{ℕ, List, ◌++◌, codes}
use Rattle.std.specs.Fmt.{decimal}
use Rattle.spec_text.specs.RunText.{newline}
use Rattle.spec_deal.specs.declared.fault.SignatureReason.{SignatureReason}
use Rattle.spec_deal.specs.declared.fault.SignatureReason.TheVariants as reasons
use Rattle.spec_deal.specs.declared.fault.SignatureFault.{SignatureFault}
use Rattle.spec_deal.specs.declared.fault.SignatureFault.TheVariants as faults

abbrev pub at_input : List ℕ → ℕ → List ℕ
at_input word input = word ++ (codes " " ++ decimal input)

abbrev pub reason_text : SignatureReason → List ℕ
reason_text reasons.Base64 = codes "base64"
reason_text reasons.Form = codes "form"
reason_text reasons.Foreign = codes "foreign"
reason_text (reasons.Spent k) = at_input (codes "spent") k
reason_text (reasons.Script k) = at_input (codes "script") k
reason_text (reasons.Witness k) = at_input (codes "witness") k
reason_text (reasons.Key k) = at_input (codes "key") k
reason_text (reasons.Signature k) = at_input (codes "signature") k
reason_text (reasons.Invalid k) = at_input (codes "invalid") k
reason_text (reasons.Conflict k) = at_input (codes "conflict") k

abbrev pub fault_text : SignatureFault → List ℕ
fault_text faults.Size = codes "size"
fault_text (faults.Line n reason) = codes "line " ++ (decimal n ++ (codes " " ++ reason_text reason))

abbrev pub refused_text : SignatureFault → List ℕ
refused_text fault = codes "signatures refused " ++ (fault_text fault ++ newline)
