-- Why a transaction isn't finished, as a text.
use Rattle.std.specs.Prelude.{ℕ, List, ◌++◌, codes}
use Rattle.std.specs.Fmt.{decimal}
use Rattle.spec_terms.specs.declared.path.PathStep.{PathStep}
use Rattle.spec_bitcoin.specs.declared.label.Label.{Label}
use Rattle.spec_bitcoin.specs.Keys.{label_text, path_text}
use Rattle.spec_deal.specs.declared.finish.FinishRefusal.{FinishRefusal}
use Rattle.spec_deal.specs.declared.finish.FinishRefusal.TheVariants as refusals

abbrev pub endorsement_text : List PathStep → List ℕ → List ℕ
endorsement_text path party = codes "endorsement " ++ (path_text path ++ (codes " " ++ party))

abbrev pub signature_text : ℕ → Label → List ℕ
signature_text input label = codes "signature " ++ (decimal input ++ (codes " " ++ label_text label))

abbrev pub wallet_text : ℕ → List ℕ → List ℕ
wallet_text input deposit = codes "signature " ++ (decimal input ++ (codes " W:" ++ deposit))

abbrev pub reason_text : FinishRefusal → List ℕ
reason_text (refusals.Endorsement path party) = endorsement_text path party
reason_text (refusals.Signature input label) = signature_text input label
reason_text (refusals.Wallet input deposit) = wallet_text input deposit
reason_text (refusals.Secret name) = codes "secret " ++ name
reason_text refusals.Predicate = codes "predicate"
