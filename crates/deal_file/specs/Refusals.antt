-- Why a deal file is refused, as a text.
use Rattle.std.specs.Prelude.{ℕ, List, ◌++◌, codes}
use Rattle.std.specs.Fmt.{decimal}
use Rattle.spec_deal.specs.declared.fault.DealReason.{DealReason}
use Rattle.spec_deal.specs.declared.fault.DealReason.TheVariants as reasons
use Rattle.spec_deal.specs.declared.fault.DealFault.{DealFault}
use Rattle.spec_deal.specs.declared.fault.DealFault.TheVariants as faults
use Rattle.deal_file.specs.Texts.{needed_text}

abbrev pub reason_text : DealReason → List ℕ
reason_text reasons.Form = codes "form"
reason_text reasons.Foreign = codes "foreign"
reason_text reasons.Value = codes "value"
reason_text (reasons.Repeated line) = codes "repeated " ++ decimal line
reason_text (reasons.Shared line) = codes "shared " ++ decimal line

abbrev pub bad_line_text : ℕ → DealReason → List ℕ
bad_line_text line reason = codes "line " ++ (decimal line ++ (codes " " ++ reason_text reason))

abbrev pub fault_text : DealFault → List ℕ
fault_text faults.Size = codes "size"
fault_text (faults.Line n reason) = bad_line_text n reason
fault_text (faults.Missing what) = codes "missing " ++ needed_text what
fault_text (faults.Circular name) = codes "circular " ++ name
