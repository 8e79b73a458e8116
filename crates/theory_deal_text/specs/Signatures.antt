-- What `missing` and `held` show of the signatures that the transactions of a deal ask for, by those that were handed in.
use Rattle.std.specs.Prelude.{ℕ, List, [], ◌∷◌, ◌++◌, Bool, true, false, not, if◌then◌else◌, filter, Option, Some, None}
use Rattle.std.specs.List.{find, flat_map, list_any}
use Rattle.spec_compiler.specs.Keyed.OwnScripts.{pays_to_key_hash}
use Rattle.spec_deal.specs.declared.signed.Signed.{Signed}
use Rattle.spec_deal.specs.declared.transaction.Transaction.{Transaction}
use Rattle.spec_deal.specs.declared.transaction.Wallet.{Wallet}
use Rattle.spec_deal.specs.Finished.{label_party}
use Rattle.spec_deal.specs.Wallets.{first_item, second_item}
use Rattle.theory_deal_text.specs.Asked.{Asked, asked, shown_slot, handed_in, is_there, is_needed_first, is_unchecked}
use Rattle.theory_deal_text.specs.SignatureLines.{MissingLine, lacks, unverified, may_start, may_start_once_checked, not_endorsed}
use Rattle.theory_deal_text.specs.SignatureLines.{HeldLine, signed, witnessed}

-- ---- missing

-- one that isn't there, or a wallet's endorsement that is there and that nobody has verified whole
abbrev pub shown_lack : List Signed → Asked → List MissingLine
shown_lack given a =
    if not (is_there given a) then lacks (shown_slot a) ∷ []
    else if is_unchecked given a then unverified (shown_slot a) ∷ []
    else []

-- whose endorsement is missing first; if none is, whether wallets' have to be checked
abbrev pub shown_gate : Option Asked → Bool → MissingLine
shown_gate (Some a) unchecked = not_endorsed a.which (label_party a.signer.label)
shown_gate None true = may_start_once_checked
shown_gate None false = may_start

abbrev pub gate_of : List Signed → List Asked → MissingLine
gate_of given all =
    shown_gate (find (λ a. not (is_there given a)) (filter is_needed_first all)) (list_any (is_unchecked given) all)

-- in the order of the transactions, and whether the initial one may be signed
abbrev pub shown_missing : List Signed → List Transaction → List MissingLine
shown_missing given ts = flat_map (shown_lack given) (asked ts) ++ gate_of given (asked ts) ∷ []

-- ---- held

-- a wallet's witness: by a key's hash the key and the signature that stand in it, else its items
abbrev pub shown_witness : Bool → Asked → List (List ℕ) → HeldLine
shown_witness true a items = signed (shown_slot a) (second_item items) a.digest (first_item items)
shown_witness false a items = witnessed (shown_slot a) items

-- what was handed in: the signature by the key that is asked for, or the wallet's witness
abbrev pub shown_handed : Option Wallet → Asked → Signed → HeldLine
shown_handed None a g = signed (shown_slot a) a.signer.key a.digest g.signature
shown_handed (Some w) a g = shown_witness (pays_to_key_hash w.script) a g.witness

abbrev pub if_handed : Asked → Option Signed → List HeldLine
if_handed a None = []
if_handed a (Some g) = shown_handed a.wallet a g ∷ []

-- of each that is there, in the order of the transactions
abbrev pub shown_held : List Signed → List Transaction → List HeldLine
shown_held given ts = flat_map (λ a. if_handed a (handed_in given a)) (asked ts)
