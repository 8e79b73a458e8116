-- The signatures that are needed, by what is known of the transactions.
use Rattle.std.specs.Prelude.{ℕ, ◌+◌, List, [], ◌∷◌, ◌++◌, map, Bool, true, false, not, ◌&&◌, Option, Some, None, is_some, codes}
use Rattle.std.specs.Prelude.{if◌then◌else◌}
use Rattle.std.specs.Fmt.{decimal}
use Rattle.std.specs.List.{find, flat_map, list_any}
use Rattle.std.specs.Option.{option_map}
use Rattle.std.specs.Str.{bytes_eq}
use Rattle.spec_data.specs.Digits.{hex_text}
use Rattle.spec_terms.specs.declared.path.PathStep.{PathStep}
use Rattle.spec_compiler.specs.Keyed.OwnScripts.{pays_to_key_hash}
use Rattle.spec_tool.specs.declared.which.Which.{Which}
use Rattle.spec_tool.specs.Keyed.Listed.{which_text}
use Rattle.spec_text.specs.RunText.{newline}
use Rattle.spec_deal.specs.declared.finish.FinishRefusal.{FinishRefusal}
use Rattle.spec_deal.specs.declared.finish.FinishRefusal.TheVariants as refusals
use Rattle.spec_deal.specs.declared.signed.Signed.{Signed}
use Rattle.spec_deal.specs.declared.transaction.Signer.{Signer}
use Rattle.spec_deal.specs.declared.transaction.Input.{Input}
use Rattle.spec_deal.specs.declared.transaction.Transaction.{Transaction}
use Rattle.spec_deal.specs.declared.transaction.Wallet.{Wallet}
use Rattle.spec_deal.specs.Transactions.{Spot, is_at}
use Rattle.spec_deal.specs.Slots.{is_endorsement}
use Rattle.spec_deal.specs.Finished.{label_party, which_path}
use Rattle.spec_deal.specs.DealText.{line_of, verb_text, item_word}
use Rattle.spec_deal.specs.Wallets.{signer_text, first_item, second_item}
use Rattle.deal_missing.specs.declared.requirements.Wanted.{Wanted}

-- a signature that is needed: of which input of which transaction, by whom, and of which digest; or a wallet's witness of it
pub record Required : Type 0 where
  pub which : Which
  pub tx : List ℕ
  pub input : ℕ
  pub digest : List ℕ
  pub signer : Signer
  pub wallet : Option Wallet

abbrev pub signer_required : Transaction → ℕ → Input → Signer → Required
signer_required t k i s = record { which = t.which; tx = t.bytes; input = k; digest = i.digest; signer = s; wallet = i.wallet }

-- of input k
abbrev pub input_required : Transaction → ℕ → Input → List Required
input_required t k i = map (signer_required t k i) i.signers

-- of the inputs from number k on
abbrev pub inputs_required : Transaction → ℕ → List Input → List Required
inputs_required t k [] = []
inputs_required t k (i ∷ is) = input_required t k i ++ inputs_required t (k + 1) is

abbrev pub transaction_required : Transaction → List Required
transaction_required t = inputs_required t 0 t.inputs

abbrev pub required : List Transaction → List Required
required ts = flat_map transaction_required ts

-- as the code has it
abbrev pub wanted_in : Wanted → Required
wanted_in w = signer_required w.transaction.now w.number w.input.now w.signer.now

-- ---- whether it is there

abbrev pub spot_of : Required → Spot
spot_of w = record { tx = w.tx; input = w.input; key = w.signer.key }

abbrev pub signature_of : List Signed → Required → Option (List ℕ)
signature_of given w = option_map (λ (g : Signed). g.signature) (find (is_at (spot_of w)) given)

abbrev pub witness_of : List Signed → Required → Option (List (List ℕ))
witness_of given w = option_map (λ (g : Signed). g.witness) (find (is_at (spot_of w)) given)

abbrev pub is_there : List Signed → Required → Bool
is_there given w = is_some (signature_of given w)

-- whether it is an endorsement that isn't there
abbrev pub is_unendorsed : List Signed → Required → Bool
is_unendorsed given w = is_endorsement w.signer.verb && not (is_there given w)

-- whether it is an endorsement by a wallet
abbrev pub is_wallets : Required → Bool
is_wallets w = is_endorsement w.signer.verb && is_some w.wallet

-- whether it is one that is there, so that it isn't verified whole
abbrev pub is_unverified : List Signed → Required → Bool
is_unverified given w = is_wallets w && is_there given w

-- ---- lines

-- which signature it is, and what for
abbrev pub required_text : Required → List ℕ
required_text w =
    which_text w.which ++ (codes " " ++ (decimal w.input ++ (codes " " ++ (signer_text w.wallet w.signer.label
    ++ (codes " " ++ verb_text w.signer.verb)))))

abbrev pub required_words : Required → List (List ℕ)
required_words w = which_text w.which ∷ decimal w.input ∷ signer_text w.wallet w.signer.label ∷ verb_text w.signer.verb ∷ []

abbrev pub missing_line : Required → List ℕ
missing_line w = line_of (codes "missing" ∷ required_words w)

abbrev pub unverified_line : Required → List ℕ
unverified_line w = line_of (codes "unverified" ∷ required_words w)

-- the key, the digest and the signature
abbrev pub proof_text : Required → List ℕ → List ℕ → List ℕ
proof_text w key signature = hex_text key ++ (codes " " ++ (hex_text w.digest ++ (codes " " ++ hex_text signature)))

abbrev pub held_line : Required → List ℕ → List ℕ → List ℕ
held_line w key signature =
    line_of (codes "held" ∷ (required_words w ++ hex_text key ∷ hex_text w.digest ∷ hex_text signature ∷ []))

-- each item with a space before it
abbrev pub items_text : List (List ℕ) → List ℕ
items_text items = flat_map (λ item. codes " " ++ item_word item) items

abbrev pub items_line : Required → List (List ℕ) → List ℕ
items_line w items = line_of (codes "witness" ∷ (required_words w ++ map item_word items))

-- a wallet's witness: by a key's hash as a signature by a key, else its items
abbrev pub witness_line : Required → Wallet → List (List ℕ) → List ℕ
witness_line w wallet items =
    if pays_to_key_hash wallet.script then held_line w (second_item items) (first_item items) else items_line w items

-- ---- the line of one, or nothing

abbrev pub line_if_held : Required → Option (List ℕ) → List ℕ
line_if_held w None = []
line_if_held w (Some signature) = held_line w w.signer.key signature

abbrev pub line_if_witnessed : Required → Wallet → Option (List (List ℕ)) → List ℕ
line_if_witnessed w wallet None = []
line_if_witnessed w wallet (Some items) = witness_line w wallet items

-- one that is there
abbrev pub told_if_held : List Signed → Required → List ℕ
told_if_held given w = elim w.wallet [
  | None ↦ line_if_held w (signature_of given w)
  | Some wallet ↦ line_if_witnessed w wallet (witness_of given w)
]

-- one that is there, and whether it is by a wallet
abbrev pub line_if_unverified : Required → Bool → List ℕ
line_if_unverified w true = unverified_line w
line_if_unverified w false = []

abbrev pub told_if_unverified : List Signed → Required → List ℕ
told_if_unverified given w = line_if_unverified w (is_unverified given w)

abbrev pub line_if_unsettled : Required → Bool → List ℕ
line_if_unsettled w true = line_if_unverified w (is_wallets w)
line_if_unsettled w false = missing_line w

-- one that isn't there, or isn't verified
abbrev pub told_if_unsettled : List Signed → Required → List ℕ
told_if_unsettled given w = line_if_unsettled w (is_there given w)

-- whether the initial transaction may be signed, or whose endorsement is missing
abbrev pub gate_line : Bool → Option Required → List ℕ
gate_line unverified None =
    (if unverified then codes "init may be signed once the unverified are checked" else codes "init may be signed") ++ newline
gate_line unverified (Some w) = line_of (codes "init not endorsed" ∷ which_text w.which ∷ label_party w.signer.label ∷ [])

-- ---- texts

abbrev pub gate_by : List Signed → List Required → List ℕ
gate_by given ws = gate_line (list_any (is_unverified given) ws) (find (is_unendorsed given) ws)

abbrev pub missing_by : List Signed → List Required → List ℕ
missing_by given ws = flat_map (told_if_unsettled given) ws ++ gate_by given ws

abbrev pub held_by : List Signed → List Required → List ℕ
held_by given ws = flat_map (told_if_held given) ws

-- behind the warnings
abbrev pub ready_by : List Signed → List Required → List ℕ
ready_by given ws = flat_map (told_if_unverified given) ws ++ gate_by given ws

abbrev pub starts_by : List Signed → List Required → Bool
starts_by given ws = not (is_some (find (is_unendorsed given) ws)) && not (list_any (is_unverified given) ws)

-- ---- what is said of it

abbrev pub path_and_party : Required → List PathStep × List ℕ
path_and_party w = (which_path w.which, label_party w.signer.label)

-- without it nobody takes the transaction
abbrev pub refusal_of : Required → FinishRefusal
refusal_of w = elim w.wallet [
  | None ↦ refusals.Signature w.input w.signer.label
  | Some wallet ↦ refusals.Wallet w.input wallet.deposit
]

-- whether it is an endorsement by this party
abbrev pub is_endorsement_by : List ℕ → Required → Bool
is_endorsement_by party w = is_endorsement w.signer.verb && bytes_eq (label_party w.signer.label) party
