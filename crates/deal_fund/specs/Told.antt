-- The lines of what a contract needs, piece by piece.
use Rattle.std.specs.Prelude.{ℕ, List, [], ◌∷◌, ◌++◌, filter, reverse, Option, Some, None, codes}
use Rattle.std.specs.Fmt.{decimal}
use Rattle.std.specs.List.{flat_map}
use Rattle.std.specs.Option.{option_map_or}
use Rattle.spec_data.specs.Digits.{hex_text}
use Rattle.spec_data.specs.Lists.{is_among}
use Rattle.spec_terms.specs.Advert.{Advert}
use Rattle.spec_terms.specs.Parties.{participants}
use Rattle.spec_terms.specs.Precondition.{Holding, deposits}
use Rattle.spec_bitcoin.specs.declared.tx.OutPoint.{OutPoint}
use Rattle.spec_text.specs.RunText.{newline}
use Rattle.spec_deal.specs.declared.deal.Needed.TheVariants as needs
use Rattle.spec_deal.specs.declared.entry.Entry.{Entry}
use Rattle.spec_deal.specs.DealFile.{value_for}
use Rattle.spec_deal.specs.DealText.{blank}
use Rattle.spec_deal.specs.FundText.{key_script, deposit_output, payee_output}
use Rattle.spec_deal.specs.Used.{choice_paid}
use Rattle.deal_file.specs.Building.{place_given}
use Rattle.deal_payees.specs.Shown.{output_text}

-- what is hashed of a party
abbrev pub key_strings : List Entry → List ℕ → List (List ℕ)
key_strings entries party = option_map_or (λ script. script ∷ []) (key_script entries party) []

-- ---- words

-- an output script and its address, or a blank
abbrev pub shown_text : Option (List ℕ) → Option (List ℕ) → List ℕ
shown_text network None = blank
shown_text network (Some script) = output_text network script

-- a place, or two blanks
abbrev pub place_text : Option OutPoint → List ℕ
place_text None = codes ".. .."
place_text (Some place) = hex_text (reverse place.txid) ++ (codes " " ++ decimal place.vout)

-- ---- lines

-- the words of a deposit before its output script
abbrev pub holding_text : List Entry → List ℕ → ℕ → List ℕ
holding_text entries name value =
    codes "deposit " ++ (name ++ (codes " " ++ (place_text (place_given (value_for entries (needs.Deposit name)))
    ++ (codes " " ++ (decimal value ++ codes " ")))))

abbrev pub deposit_text : (List ℕ → List ℕ) → Option (List ℕ) → List Entry → List ℕ × Holding → List ℕ
deposit_text hash network entries d =
    holding_text entries (d.0) (d.1).value ++ (shown_text network (deposit_output hash entries d) ++ newline)

abbrev pub payee_text : (List ℕ → List ℕ) → Option (List ℕ) → List Entry → List ℕ → List ℕ
payee_text hash network entries party =
    codes "pay " ++ (party ++ (codes " " ++ (shown_text network (payee_output hash entries party) ++ newline)))

-- the deposits in order, and then the parties whom a branch pays
abbrev pub fund_by : (List ℕ → List ℕ) → Option (List ℕ) → Advert → List Entry → List ℕ
fund_by hash network advert entries =
    flat_map (deposit_text hash network entries) (deposits advert.pre)
    ++ flat_map (payee_text hash network entries) (filter (λ party. is_among party (choice_paid advert.root)) (participants advert))
