-- What is printed where a chain file is refused.
use Rattle.std.specs.Prelude.{ℕ, List, [], ◌∷◌, codes}
use Rattle.std.specs.Fmt.{decimal}
use Rattle.spec_deal.specs.DealText.{line_of}
use Rattle.spec_deal.specs.RefusedText.{at_line}
use Rattle.spec_chain.specs.declared.fault.ChainReason.{ChainReason}
use Rattle.spec_chain.specs.declared.fault.ChainReason.TheVariants as reasons
use Rattle.spec_chain.specs.declared.fault.ChainFault.{ChainFault}
use Rattle.spec_chain.specs.declared.fault.ChainFault.TheVariants as faults

abbrev pub chain_reason_words : ChainReason → List (List ℕ)
chain_reason_words reasons.Form = codes "form" ∷ []
chain_reason_words reasons.Height = codes "height" ∷ []
chain_reason_words reasons.Tx = codes "tx" ∷ []
chain_reason_words (reasons.Input k) = codes "input" ∷ decimal k ∷ []
chain_reason_words (reasons.Foreign k) = codes "foreign" ∷ decimal k ∷ []
chain_reason_words reasons.Lock = codes "lock" ∷ []
chain_reason_words (reasons.Witness k) = codes "witness" ∷ decimal k ∷ []
chain_reason_words reasons.Branch = codes "branch" ∷ []

abbrev pub chain_fault_words : ChainFault → List (List ℕ)
chain_fault_words faults.Size = codes "size" ∷ []
chain_fault_words (faults.Line n reason) = at_line n (chain_reason_words reason)

abbrev pub chain_refused_line : ChainFault → List ℕ
chain_refused_line fault = line_of (codes "chain refused" ∷ chain_fault_words fault)
