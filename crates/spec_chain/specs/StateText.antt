-- What is printed of where a deal stands: what has been, as steps of the calculus, and what may come.
use Rattle.std.specs.Prelude.{ℕ, List, [], ◌∷◌, ◌++◌, map, reverse, Option, Some, None, codes}
use Rattle.std.specs.Fmt.{decimal}
use Rattle.std.specs.List.{flat_map}
use Rattle.spec_data.specs.Digits.{hex_text}
use Rattle.spec_terms.specs.Precondition.{secrets, names_of}
use Rattle.spec_bitcoin.specs.Keys.{label_text, path_text}
use Rattle.spec_compiler.specs.Keyed.Keys.{Keys}
use Rattle.spec_compiler.specs.Keyed.Instance.{Instance}
use Rattle.spec_text.specs.RunText.{output_text}
use Rattle.spec_text.specs.StepText.{step_line}
use Rattle.spec_tool.specs.declared.which.Which.{Which}
use Rattle.spec_tool.specs.Keyed.Listed.{which_text}
use Rattle.spec_deal.specs.declared.entry.Shown.{Shown}
use Rattle.spec_deal.specs.declared.signed.Signed.{Signed}
use Rattle.spec_deal.specs.DealText.{line_of, verb_text, slot_words}
use Rattle.spec_deal.specs.SecretFile.{string_for}
use Rattle.spec_deal.specs.Slots.{Slot}
use Rattle.spec_deal.specs.Wallets.{wallet_text}
use Rattle.spec_chain.specs.declared.happened.Happened.{Happened}
use Rattle.spec_chain.specs.declared.output.Held.TheVariants.{Deposit, Position, Payout}
use Rattle.spec_chain.specs.declared.output.Output.{Output}
use Rattle.spec_chain.specs.declared.requirement.Requirement.{Requirement}
use Rattle.spec_chain.specs.declared.requirement.Requirement.TheVariants as requirements
use Rattle.spec_chain.specs.Chain.{Course}
use Rattle.spec_chain.specs.Following.{State}
use Rattle.spec_chain.specs.Outstanding.{asked, known, outstanding, unverified_for, awaited}

-- a txid as wallets show it, with its bytes reversed
abbrev pub txid_text : List ℕ → List ℕ
txid_text txid = hex_text (reverse txid)

-- ---- what has been

-- one of the deal's by its name, any other by its txid
abbrev pub happened_name : Happened → List ℕ
happened_name h = elim h.which [
  | None ↦ txid_text h.txid
  | Some which ↦ which_text which
]

abbrev pub gone_line : List ℕ → List ℕ
gone_line x = line_of (codes "gone" ∷ x ∷ [])

-- a transaction, and below it its steps and the deposits that are gone
abbrev pub happened_text : Happened → List ℕ
happened_text h =
    line_of (codes "confirmed" ∷ happened_name h ∷ decimal h.height ∷ [])
    ++ (flat_map (step_line h.made) h.steps ++ flat_map gone_line h.gone)

-- an output under its number, by what it is
abbrev pub output_words : List ℕ → List ℕ → Output → List (List ℕ)
output_words word name o =
    word ∷ output_text o.number ∷ name ∷ txid_text o.place.txid ∷ decimal o.place.vout ∷ decimal o.value ∷ []

-- a live position
abbrev pub live_line : Output → List ℕ
live_line o = elim o.held [
  | Deposit name ↦ []
  | Position path ↦ line_of (output_words (codes "live") (path_text path) o)
  | Payout party ↦ []
]

-- a payout, wherever it is now
abbrev pub paid_line : Output → List ℕ
paid_line o = elim o.held [
  | Deposit name ↦ []
  | Position path ↦ []
  | Payout party ↦ line_of (output_words (codes "paid") party o)
]

abbrev pub string_line : List ℕ → Option (List ℕ) → List ℕ
string_line name None = []
string_line name (Some bytes) = line_of (codes "secret" ∷ name ∷ hex_text bytes ∷ [])

-- the secrets that are known, in the precondition's order
abbrev pub secrets_text : Instance → List Shown → List ℕ
secrets_text s strings = flat_map (λ name. string_line name (string_for strings name)) (names_of (secrets s.advert.pre))

abbrev pub height_line : ℕ → List ℕ
height_line tip = line_of (codes "height" ∷ decimal tip ∷ [])

-- ---- what may come

abbrev pub requirement_words : Requirement → List (List ℕ)
requirement_words (requirements.Height height) = codes "needs height" ∷ decimal height ∷ []
requirement_words (requirements.Signature which input label verb) =
    codes "needs signature" ∷ which_text which ∷ decimal input ∷ label_text label ∷ verb_text verb ∷ []
requirement_words (requirements.Wallet which input deposit owner verb) =
    codes "needs signature" ∷ which_text which ∷ decimal input ∷ wallet_text deposit ∷ verb_text verb ∷ []
requirement_words (requirements.Deposit name) = codes "needs deposit" ∷ name ∷ []
requirement_words (requirements.Secret name party) = codes "needs secret" ∷ name ∷ codes "of" ∷ party ∷ []
requirement_words requirements.DepositGone = codes "never: deposit gone" ∷ []
requirement_words requirements.PredicateFalse = codes "never: predicate false" ∷ []

abbrev pub requirement_line : Requirement → List ℕ
requirement_line requirement = line_of (requirement_words requirement)

abbrev pub unverified_line : Slot → List ℕ
unverified_line slot = line_of (codes "unverified" ∷ slot_words slot)

-- a transaction that these are missing for; below one that can come, the witnesses of wallets that it counts on
abbrev pub prospect_text : Which → List Slot → List Requirement → List ℕ
prospect_text which unverified [] = line_of (codes "can" ∷ which_text which ∷ []) ++ flat_map unverified_line unverified
prospect_text which unverified (w ∷ ws) = line_of (codes "cannot" ∷ which_text which ∷ []) ++ flat_map requirement_line (w ∷ ws)

abbrev pub waits_line : List ℕ → List ℕ
waits_line party = line_of (codes "waits" ∷ party ∷ [])

-- what is missing for each that is asked
abbrev pub all_outstanding : (List ℕ → List ℕ) → Keys → Instance → List Signed → List Shown → State → ℕ → List (List Requirement)
all_outstanding hash keys s given strings state tip = map (outstanding hash keys s given strings state tip) (asked s state)

abbrev pub prospects_text : (List ℕ → List ℕ) → Keys → Instance → List Signed → List Shown → State → ℕ → List ℕ
prospects_text hash keys s given strings state tip =
    flat_map
    (λ which. prospect_text which (unverified_for hash keys s given which) (outstanding hash keys s given strings state tip which))
    (asked s state)
    ++ flat_map waits_line (awaited s (all_outstanding hash keys s given strings state tip))

-- ---- all of it

abbrev pub past_text : Course → List ℕ
past_text course = flat_map happened_text course.history ++ (flat_map live_line course.state.live ++ flat_map paid_line course.state.made)

-- where a deal stands after a chain of this tip, with these signatures and strings
abbrev pub state_text : (List ℕ → List ℕ) → Keys → Instance → Course → ℕ → List Signed → List Shown → List ℕ
state_text hash keys s course tip given strings =
    past_text course
    ++ (secrets_text s (known course.state strings)
    ++ (height_line tip ++ prospects_text hash keys s given (known course.state strings) course.state tip))
