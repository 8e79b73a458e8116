-- The lines of where a deal stands, as they are put together.
use Rattle.std.specs.Prelude.{ℕ, List, [], ◌∷◌, ◌++◌, Option, Some, None, codes}
use Rattle.std.specs.Fmt.{decimal}
use Rattle.std.specs.List.{flat_map}
use Rattle.spec_bitcoin.specs.declared.label.Label.{Label}
use Rattle.spec_bitcoin.specs.declared.tx.OutPoint.{OutPoint}
use Rattle.spec_bitcoin.specs.Keys.{label_text}
use Rattle.spec_text.specs.RunText.{output_text, newline}
use Rattle.spec_tool.specs.declared.which.Which.{Which}
use Rattle.spec_tool.specs.Keyed.Listed.{which_text}
use Rattle.spec_deal.specs.declared.finish.Verb.{Verb}
use Rattle.spec_deal.specs.DealText.{verb_text}
use Rattle.spec_deal.specs.Wallets.{wallet_text}
use Rattle.spec_chain.specs.declared.happened.Happened.{Happened}
use Rattle.spec_chain.specs.declared.requirement.Requirement.{Requirement}
use Rattle.spec_chain.specs.declared.requirement.Requirement.TheVariants as requirements
use Rattle.spec_chain.specs.StateText.{txid_text, requirement_line}
use Rattle.deal_state.specs.declared.signatures.Unverified.{Unverified}

abbrev pub name_text : Option Which → List ℕ → List ℕ
name_text None txid = txid_text txid
name_text (Some which) txid = which_text which

abbrev pub confirmed_line : Happened → List ℕ
confirmed_line h = codes "confirmed " ++ (name_text h.which h.txid ++ (codes " " ++ (decimal h.height ++ newline)))

-- behind what an output is
abbrev pub place_text : OutPoint → ℕ → List ℕ
place_text place value =
    txid_text place.txid ++ (codes " " ++ (decimal place.vout ++ (codes " " ++ (decimal value ++ newline))))

abbrev pub number_text : List ℕ → ℕ → List ℕ
number_text word number = word ++ (codes " " ++ (output_text number ++ codes " "))

-- behind `needs signature`, each by itself
abbrev pub input_text : Which → ℕ → List ℕ
input_text which input = which_text which ++ (codes " " ++ (decimal input ++ codes " "))

abbrev pub signer_text : Label → Verb → List ℕ
signer_text label verb = label_text label ++ (codes " " ++ verb_text verb)

abbrev pub signature_text : Which → ℕ → Label → Verb → List ℕ
signature_text which input label verb = codes "needs signature " ++ (input_text which input ++ signer_text label verb)

-- by a wallet
abbrev pub wallet_signer_text : List ℕ → Verb → List ℕ
wallet_signer_text deposit verb = wallet_text deposit ++ (codes " " ++ verb_text verb)

abbrev pub witness_text : Which → ℕ → List ℕ → Verb → List ℕ
witness_text which input deposit verb = codes "needs signature " ++ (input_text which input ++ wallet_signer_text deposit verb)

abbrev pub secret_text : List ℕ → List ℕ → List ℕ
secret_text name party = codes "needs secret " ++ (name ++ (codes " of " ++ party))

abbrev pub requirement_text : Requirement → List ℕ
requirement_text (requirements.Height height) = codes "needs height " ++ decimal height
requirement_text (requirements.Signature which input label verb) = signature_text which input label verb
requirement_text (requirements.Wallet which input deposit owner verb) = witness_text which input deposit verb
requirement_text (requirements.Deposit name) = codes "needs deposit " ++ name
requirement_text (requirements.Secret name party) = secret_text name party
requirement_text requirements.DepositGone = codes "never: deposit gone"
requirement_text requirements.PredicateFalse = codes "never: predicate false"

abbrev pub verdict_line : List ℕ → Which → List ℕ
verdict_line word which = word ++ (codes " " ++ (which_text which ++ newline))

abbrev pub unverified_text : Unverified → List ℕ
unverified_text u = codes "unverified " ++ (input_text u.which u.input ++ (wallet_signer_text u.deposit u.verb ++ newline))

-- a transaction, and below it what is missing for it, or the witnesses that it counts on
abbrev pub prospect_text : Which → List Unverified → List Requirement → List ℕ
prospect_text which unverified [] = verdict_line (codes "can") which ++ flat_map unverified_text unverified
prospect_text which unverified (w ∷ ws) = verdict_line (codes "cannot") which ++ flat_map requirement_line (w ∷ ws)
