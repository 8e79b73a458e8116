-- What `fund` prints: the deposits that a contract needs and where parties are paid, as far as a deal file says it.
use Rattle.std.specs.Prelude.{ℕ, List, [], ◌∷◌, ◌++◌, filter, reverse, Option, Some, None, codes}
use Rattle.std.specs.Fmt.{decimal}
use Rattle.std.specs.List.{flat_map}
use Rattle.std.specs.Option.{option_map, option_map_or}
use Rattle.spec_data.specs.Digits.{hex_text}
use Rattle.spec_data.specs.Lists.{or_else}
use Rattle.spec_terms.specs.Advert.{Advert}
use Rattle.spec_terms.specs.Parties.{participants}
use Rattle.spec_terms.specs.Precondition.{Holding, deposits}
use Rattle.spec_bitcoin.specs.declared.label.Label.TheVariants as labels
use Rattle.spec_bitcoin.specs.Keys.{deposit_script, pay_to}
use Rattle.spec_deal.specs.declared.deal.Needed.TheVariants as needs
use Rattle.spec_deal.specs.declared.entry.Entry.{Entry}
use Rattle.spec_deal.specs.declared.entry.Value.{Value}
use Rattle.spec_deal.specs.declared.entry.Value.TheVariants.{Place as place, Wallet as wallet}
use Rattle.spec_deal.specs.DealFile.{value_for, key_or_none, network_given, script_given, wallet_given, entry_keys}
use Rattle.spec_deal.specs.DealText.{line_of, blank, script_words}
use Rattle.spec_deal.specs.Used.{paid_parties, uses_key}

-- ---- what a file gives

-- the script of a party's deposits, where its key is given
abbrev pub key_script : List Entry → List ℕ → Option (List ℕ)
key_script entries party =
    option_map (λ value. deposit_script (key_or_none (Some value))) (value_for entries (needs.Key (labels.Deposit party)))

-- the output script of a party's deposits
abbrev pub key_output : (List ℕ → List ℕ) → List Entry → List ℕ → Option (List ℕ)
key_output hash entries party = option_map (λ script. pay_to (hash script)) (key_script entries party)

-- the output script of a deposit: its wallet's, or that of its owner's key
abbrev pub deposit_output : (List ℕ → List ℕ) → List Entry → List ℕ × Holding → Option (List ℕ)
deposit_output hash entries d =
    or_else (wallet_given (value_for entries (needs.Deposit (d.0)))) (key_output hash entries (d.1).owner)

-- the output script where a party is paid: its own, or that of its deposits
abbrev pub payee_output : (List ℕ → List ℕ) → List Entry → List ℕ → Option (List ℕ)
payee_output hash entries party = or_else (script_given (value_for entries (needs.Payee party))) (key_output hash entries party)

-- the network whose addresses are shown
abbrev pub shown_network : List Entry → Option (List ℕ)
shown_network entries = network_given (value_for entries needs.Network)

-- ---- lines

-- what isn't given is a blank
abbrev pub output_words : Option (List ℕ) → Option (List ℕ) → List (List ℕ)
output_words network None = blank ∷ []
output_words network (Some script) = script_words network script

abbrev pub place_words : Option Value → List (List ℕ)
place_words None = blank ∷ blank ∷ []
place_words (Some (place outpoint)) = hex_text (reverse outpoint.txid) ∷ decimal outpoint.vout ∷ []
place_words (Some (wallet outpoint own)) = hex_text (reverse outpoint.txid) ∷ decimal outpoint.vout ∷ []
place_words (Some _) = blank ∷ blank ∷ []

-- a deposit: where it lies, its value, and the output script that it has or has to get
abbrev pub fund_deposit_line : (List ℕ → List ℕ) → List Entry → List ℕ × Holding → List ℕ
fund_deposit_line hash entries d =
    line_of
    (codes "deposit" ∷ d.0 ∷ (place_words (value_for entries (needs.Deposit (d.0)))
    ++ decimal (d.1).value ∷ output_words (shown_network entries) (deposit_output hash entries d)))

abbrev pub fund_payee_line : (List ℕ → List ℕ) → List Entry → List ℕ → List ℕ
fund_payee_line hash entries party =
    line_of (codes "pay" ∷ party ∷ output_words (shown_network entries) (payee_output hash entries party))

-- the deposits in order, and then the parties whom a branch pays
abbrev pub fund_text : (List ℕ → List ℕ) → Advert → List Entry → List ℕ
fund_text hash advert entries =
    flat_map (fund_deposit_line hash entries) (deposits advert.pre) ++ flat_map (fund_payee_line hash entries) (paid_parties advert)

-- ---- strings hashed

-- the scripts of the keys that are used and given, in the order of the participants
abbrev pub fund_strings : Advert → List Entry → List (List ℕ)
fund_strings advert entries =
    flat_map (λ party. option_map_or (λ script. script ∷ []) (key_script entries party) [])
    (filter (uses_key (entry_keys advert entries) advert) (participants advert))
