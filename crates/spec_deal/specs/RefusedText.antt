-- What is printed where a file of a deal is refused, or a transaction can't be finished.
use Rattle.std.specs.Prelude.{ℕ, List, [], ◌∷◌, codes}
use Rattle.std.specs.Fmt.{decimal}
use Rattle.spec_bitcoin.specs.Keys.{label_text, path_text}
use Rattle.spec_deal.specs.declared.fault.DealReason.{DealReason}
use Rattle.spec_deal.specs.declared.fault.DealReason.TheVariants as deal_reasons
use Rattle.spec_deal.specs.declared.fault.DealFault.{DealFault}
use Rattle.spec_deal.specs.declared.fault.DealFault.TheVariants as deal_faults
use Rattle.spec_deal.specs.declared.fault.SignatureReason.{SignatureReason}
use Rattle.spec_deal.specs.declared.fault.SignatureReason.TheVariants as signature_reasons
use Rattle.spec_deal.specs.declared.fault.SignatureFault.{SignatureFault}
use Rattle.spec_deal.specs.declared.fault.SignatureFault.TheVariants as signature_faults
use Rattle.spec_deal.specs.declared.fault.SecretReason.{SecretReason}
use Rattle.spec_deal.specs.declared.fault.SecretReason.TheVariants as secret_reasons
use Rattle.spec_deal.specs.declared.fault.SecretFault.{SecretFault}
use Rattle.spec_deal.specs.declared.fault.SecretFault.TheVariants as secret_faults
use Rattle.spec_deal.specs.declared.finish.FinishRefusal.{FinishRefusal}
use Rattle.spec_deal.specs.declared.finish.FinishRefusal.TheVariants as refusals
use Rattle.spec_deal.specs.DealText.{line_of, needed_words}
use Rattle.spec_deal.specs.Wallets.{wallet_text}

-- `line` and its number, before the words of a reason
abbrev pub at_line : ℕ → List (List ℕ) → List (List ℕ)
at_line n reason = codes "line" ∷ decimal n ∷ reason

-- ---- deal files

abbrev pub deal_reason_words : DealReason → List (List ℕ)
deal_reason_words deal_reasons.Form = codes "form" ∷ []
deal_reason_words deal_reasons.Foreign = codes "foreign" ∷ []
deal_reason_words deal_reasons.Value = codes "value" ∷ []
deal_reason_words (deal_reasons.Repeated line) = codes "repeated" ∷ decimal line ∷ []
deal_reason_words (deal_reasons.Shared line) = codes "shared" ∷ decimal line ∷ []

abbrev pub deal_fault_words : DealFault → List (List ℕ)
deal_fault_words deal_faults.Size = codes "size" ∷ []
deal_fault_words (deal_faults.Line n reason) = at_line n (deal_reason_words reason)
deal_fault_words (deal_faults.Missing what) = codes "missing" ∷ needed_words what
deal_fault_words (deal_faults.Circular name) = codes "circular" ∷ name ∷ []

abbrev pub deal_refused_line : DealFault → List ℕ
deal_refused_line fault = line_of (codes "deal refused" ∷ deal_fault_words fault)

-- ---- files of signatures

abbrev pub signature_reason_words : SignatureReason → List (List ℕ)
signature_reason_words signature_reasons.Base64 = codes "base64" ∷ []
signature_reason_words signature_reasons.Form = codes "form" ∷ []
signature_reason_words signature_reasons.Foreign = codes "foreign" ∷ []
signature_reason_words (signature_reasons.Spent k) = codes "spent" ∷ decimal k ∷ []
signature_reason_words (signature_reasons.Script k) = codes "script" ∷ decimal k ∷ []
signature_reason_words (signature_reasons.Witness k) = codes "witness" ∷ decimal k ∷ []
signature_reason_words (signature_reasons.Key k) = codes "key" ∷ decimal k ∷ []
signature_reason_words (signature_reasons.Signature k) = codes "signature" ∷ decimal k ∷ []
signature_reason_words (signature_reasons.Invalid k) = codes "invalid" ∷ decimal k ∷ []
signature_reason_words (signature_reasons.Conflict k) = codes "conflict" ∷ decimal k ∷ []

abbrev pub signature_fault_words : SignatureFault → List (List ℕ)
signature_fault_words signature_faults.Size = codes "size" ∷ []
signature_fault_words (signature_faults.Line n reason) = at_line n (signature_reason_words reason)

abbrev pub signatures_refused_line : SignatureFault → List ℕ
signatures_refused_line fault = line_of (codes "signatures refused" ∷ signature_fault_words fault)

-- ---- files of secrets

abbrev pub secret_reason_words : SecretReason → List (List ℕ)
secret_reason_words secret_reasons.Form = codes "form" ∷ []
secret_reason_words secret_reasons.Foreign = codes "foreign" ∷ []
secret_reason_words secret_reasons.Value = codes "value" ∷ []
secret_reason_words (secret_reasons.Repeated line) = codes "repeated" ∷ decimal line ∷ []
secret_reason_words secret_reasons.Length = codes "length" ∷ []
secret_reason_words secret_reasons.Hash = codes "hash" ∷ []

abbrev pub secret_fault_words : SecretFault → List (List ℕ)
secret_fault_words secret_faults.Size = codes "size" ∷ []
secret_fault_words (secret_faults.Line n reason) = at_line n (secret_reason_words reason)

abbrev pub secrets_refused_line : SecretFault → List ℕ
secrets_refused_line fault = line_of (codes "secrets refused" ∷ secret_fault_words fault)

-- ---- transactions

abbrev pub finish_refusal_words : FinishRefusal → List (List ℕ)
finish_refusal_words (refusals.Endorsement path party) = codes "endorsement" ∷ path_text path ∷ party ∷ []
finish_refusal_words (refusals.Signature input label) = codes "signature" ∷ decimal input ∷ label_text label ∷ []
finish_refusal_words (refusals.Wallet input deposit) = codes "signature" ∷ decimal input ∷ wallet_text deposit ∷ []
finish_refusal_words (refusals.Secret name) = codes "secret" ∷ name ∷ []
finish_refusal_words refusals.Predicate = codes "predicate" ∷ []

abbrev pub finish_refused_line : FinishRefusal → List ℕ
finish_refused_line refusal = line_of (codes "refused" ∷ finish_refusal_words refusal)
