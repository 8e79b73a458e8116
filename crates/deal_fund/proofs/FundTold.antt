-- The lines that are written are those of the definition.
use Rattle.std.proofs.Common.{◌≡◌, ℕ, List, [], ◌∷◌, ◌++◌, Option, Some, None, refl, sym, ap, ◌∙◌, append_assoc}
use Rattle.std.specs.Prelude.{codes, filter, reverse}
use Rattle.std.specs.Fmt.{decimal}
use Rattle.std.specs.List.{flat_map}
use Rattle.std.specs.Option.{option_map_or}
use Rattle.spec_data.specs.Digits.{hex_text}
use Rattle.spec_data.specs.Lists.{is_among}
use Rattle.spec_terms.specs.Advert.{Advert}
use Rattle.spec_terms.specs.Parties.{participants}
use Rattle.spec_terms.specs.Precondition.{Holding, deposits}
use Rattle.spec_text.specs.RunText.{newline}
use Rattle.spec_deal.specs.declared.deal.Needed.TheVariants as needs
use Rattle.spec_deal.specs.declared.entry.Entry.{Entry}
use Rattle.spec_deal.specs.declared.entry.Value.{Value}
use Rattle.spec_deal.specs.declared.entry.Value.TheVariants as values
use Rattle.spec_deal.specs.DealFile.{value_for}
use Rattle.spec_deal.specs.DealText.{line_of, script_words}
use Rattle.spec_deal.specs.FundText.{output_words, place_words, deposit_output, payee_output, fund_deposit_line, fund_payee_line, fund_text, shown_network}
use Rattle.spec_deal.specs.Used.{choice_paid}
use Rattle.deal_file.specs.Building.{place_given}
use Rattle.deal_payees.specs.Shown.{address_in, behind_space, output_text}
use Rattle.deal_fund.specs.Told.{shown_text, place_text, deposit_text, payee_text, fund_by}

-- ---- words

address_ends : (script : List ℕ) (o : Option (List ℕ))
    → line_of (script ∷ option_map_or (λ text. text ∷ []) o []) ≡ (script ++ behind_space o) ++ newline
address_ends script None = sym (append_assoc script [] newline)
address_ends script (Some text) = sym (append_assoc script (32 ∷ text) newline)

script_ends : (network : Option (List ℕ)) (script : List ℕ) → line_of (script_words network script) ≡ output_text network script ++ newline
script_ends None script = sym (append_assoc (hex_text script) [] newline)
script_ends (Some hrp) script = address_ends (hex_text script) (address_in hrp script)

-- an output behind another word
output_ends : (network o : Option (List ℕ)) (word : List ℕ)
    → line_of (word ∷ output_words network o) ≡ word ++ (32 ∷ (shown_text network o ++ newline))
output_ends network None word = refl
output_ends network (Some script) word = ap (λ (text : List ℕ). word ++ (32 ∷ text)) (script_ends network script)

place_ends : (v : Option Value) (word : List ℕ) (words : List (List ℕ))
    → line_of (place_words v ++ word ∷ words) ≡ place_text (place_given v) ++ (32 ∷ line_of (word ∷ words))
place_ends None word words = refl
place_ends (Some (values.Place o)) word words = sym (append_assoc (hex_text (reverse o.txid)) (32 ∷ decimal o.vout) (32 ∷ line_of (word ∷ words)))
place_ends (Some (values.Wallet o own)) word words = sym (append_assoc (hex_text (reverse o.txid)) (32 ∷ decimal o.vout) (32 ∷ line_of (word ∷ words)))
place_ends (Some (values.Key key)) word words = refl
place_ends (Some (values.Hash digest)) word words = refl
place_ends (Some (values.Network hrp)) word words = refl
place_ends (Some (values.Script script)) word words = refl

-- the words of a deposit before its output
words_before : (a b c rest : List ℕ)
    → (codes "deposit " ++ (a ++ (32 ∷ (b ++ (32 ∷ (c ++ 32 ∷ [])))))) ++ rest ≡ codes "deposit " ++ (a ++ (32 ∷ (b ++ (32 ∷ (c ++ 32 ∷ rest)))))
words_before a b c rest =
    ap (λ (x : List ℕ). codes "deposit " ++ x)
    (append_assoc a (32 ∷ (b ++ (32 ∷ (c ++ 32 ∷ [])))) rest
    ∙ ap (λ (x : List ℕ). a ++ 32 ∷ x)
    (append_assoc b (32 ∷ (c ++ 32 ∷ [])) rest ∙ ap (λ (x : List ℕ). b ++ 32 ∷ x) (append_assoc c (32 ∷ []) rest)))

-- a deposit's words, by what is given
placed : (network o : Option (List ℕ)) (v : Option Value) (name : List ℕ) (value : ℕ)
    → (codes "deposit " ++ (name ++ (32 ∷ (place_text (place_given v) ++ (32 ∷ (decimal value ++ 32 ∷ [])))))) ++ (shown_text network o ++ newline)
    ≡ line_of (codes "deposit" ∷ name ∷ (place_words v ++ decimal value ∷ output_words network o))
placed network o v name value =
    words_before name (place_text (place_given v)) (decimal value) (shown_text network o ++ newline)
    ∙ ap (λ (x : List ℕ). codes "deposit " ++ (name ++ (32 ∷ (place_text (place_given v) ++ (32 ∷ x))))) (sym (output_ends network o (decimal value)))
    ∙ ap (λ (x : List ℕ). codes "deposit " ++ (name ++ (32 ∷ x))) (sym (place_ends v (decimal value) (output_words network o)))
    ∙ named v
  where
    named : (v : Option Value) → codes "deposit " ++ (name ++ (32 ∷ line_of (place_words v ++ decimal value ∷ output_words network o)))
        ≡ line_of (codes "deposit" ∷ name ∷ (place_words v ++ decimal value ∷ output_words network o))
    named None = refl
    named (Some (values.Place o)) = refl
    named (Some (values.Wallet o own)) = refl
    named (Some (values.Key key)) = refl
    named (Some (values.Hash digest)) = refl
    named (Some (values.Network hrp)) = refl
    named (Some (values.Script script)) = refl

-- ---- lines

module _ (hash : List ℕ → List ℕ) (entries : List Entry) where
  abbrev network : Option (List ℕ)
  network = shown_network entries

  deposit_told : (d : List ℕ × Holding) → deposit_text hash network entries d ≡ fund_deposit_line hash entries d
  deposit_told d =
      placed network (deposit_output hash entries d) (value_for entries (needs.Deposit (d.0))) (d.0) (d.1).value

  payee_told : (party : List ℕ) → payee_text hash network entries party ≡ fund_payee_line hash entries party
  payee_told party = ap (λ (x : List ℕ). codes "pay " ++ x) (sym (output_ends network (payee_output hash entries party) party))

  deposits_told : (ds : List (List ℕ × Holding)) → flat_map (deposit_text hash network entries) ds ≡ flat_map (fund_deposit_line hash entries) ds
  deposits_told [] = refl
  deposits_told (d ∷ ds) = λ j. deposit_told d j ++ deposits_told ds j

  payees_told : (ps : List (List ℕ)) → flat_map (payee_text hash network entries) ps ≡ flat_map (fund_payee_line hash entries) ps
  payees_told [] = refl
  payees_told (p ∷ ps) = λ j. payee_told p j ++ payees_told ps j

  pub fund_told : (advert : Advert) → fund_by hash network advert entries ≡ fund_text hash advert entries
  fund_told advert =
      λ j. deposits_told (deposits advert.pre) j
      ++ payees_told (filter (λ party. is_among party (choice_paid advert.root)) (participants advert)) j
