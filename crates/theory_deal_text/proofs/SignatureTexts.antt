-- The texts of `missing` and `held` are those of the lines that they show.
use Rattle.std.proofs.Common.{◌≡◌, ℕ, List, [], ◌∷◌, ◌++◌, map, Bool, true, false, Option, Some, None, refl, sym, ap, ◌∙◌, cond}
use Rattle.std.proofs.Common.{append-nil}
use Rattle.std.specs.Prelude.{flat_map, filter, not, ◌||◌, is_some, codes}
use Rattle.std.specs.Fmt.{decimal}
use Rattle.std.specs.List.{find, list_any}
use Rattle.std.specs.Option.{option_map}
use Rattle.spec_data.specs.Digits.{hex_text}
use Rattle.spec_compiler.specs.Keyed.Instance.{Instance}
use Rattle.spec_compiler.specs.Keyed.Keys.{Keys}
use Rattle.spec_compiler.specs.Keyed.OwnScripts.{pays_to_key_hash}
use Rattle.spec_text.specs.RunText.{newline}
use Rattle.spec_tool.specs.Keyed.Listed.{which_text}
use Rattle.spec_deal.specs.declared.signed.Signed.{Signed}
use Rattle.spec_deal.specs.declared.transaction.Wallet.{Wallet}
use Rattle.spec_deal.specs.DealText as print
use Rattle.spec_deal.specs.DealText.{slot_words, gate_line, missing_text, item_word, held_text, verb_text}
use Rattle.spec_deal.specs.Finished.{bytes_or_none, items_or_none, label_party}
use Rattle.spec_deal.specs.Given.{is_for, has, is_unverified_endorsement, has_unverified, first_unendorsed}
use Rattle.spec_deal.specs.Slots.{Slot, slots, slot_key, slot_digest, is_endorsement}
use Rattle.spec_deal.specs.Transactions.{no_digest, transactions}
use Rattle.spec_deal.specs.Wallets.{first_item, second_item}
use Rattle.theory_play_text.specs.Lines.{Words}
use Rattle.theory_plan_text.proofs.AnyLines.{line_text, text_of, text_append}
use Rattle.theory_deal_text.specs.Asked.{Asked, shown_slot, handed_in, is_there, is_needed_first, is_unchecked}
use Rattle.theory_deal_text.specs.SignatureLines.{MissingLine, HeldLine}
use Rattle.theory_deal_text.specs.SignatureLines as line
use Rattle.theory_deal_text.specs.Signatures.{shown_lack, shown_gate, gate_of, shown_missing, shown_witness, shown_handed, if_handed, shown_held}
use Rattle.theory_deal_text.proofs.AskedSlots.{as_asked, all_asked, mapped_filter, mapped_find, mapped_any}
use Rattle.theory_deal_text.proofs.PlanTexts.{signer_shown}
use Rattle.theory_deal_text.proofs.SignatureRead.{missing_written, held_written}
use Rattle.theory_deal_text.proofs.Words.{line_is, slot_and}

module _ (hash : List ℕ → List ℕ) (keys : Keys) where
  abbrev asks : Slot → Asked
  asks slot = as_asked hash keys slot

  -- the words of a signature, and words behind them
  slot_written : (slot : Slot) (words : Words) → slot_words slot ++ words ≡ slot_and (shown_slot (asks slot)) words
  slot_written slot words =
      ap (λ (who : List ℕ). which_text slot.which ∷ decimal slot.input ∷ who ∷ verb_text slot.verb ∷ words)
      (signer_shown slot.wallet slot.label)

  module _ (given : List Signed) where
    -- ---- missing

    lack_written : (slot : Slot) (word : List ℕ)
        → print.line_of (word ∷ slot_words slot) ≡ print.line_of (word ∷ slot_and (shown_slot (asks slot)) [])
    lack_written slot word = ap (λ (words : Words). print.line_of (word ∷ words)) (slot_written slot [])

    -- of one that isn't there, or that isn't verified, by the two tests
    abbrev a_line : Bool → Slot → List ℕ
    a_line there slot = print.line_of (cond there (codes "unverified") (codes "missing") ∷ slot_words slot)

    abbrev a_lack : Bool → Bool → Slot → List MissingLine
    a_lack there unchecked slot =
        cond (not there) (line.lacks (shown_slot (asks slot)) ∷ [])
        (cond unchecked (line.unverified (shown_slot (asks slot)) ∷ []) [])

    by_tests : (there unchecked : Bool) (slot : Slot) (rest : List Slot) (printed : Slot → List ℕ) (ls : List MissingLine)
        → printed slot ≡ a_line there slot
        → flat_map printed rest ≡ text_of missing_written ls
        → flat_map printed (cond (not there || unchecked) (slot ∷ rest) rest)
        ≡ text_of missing_written (a_lack there unchecked slot ++ ls)
    by_tests false unchecked slot rest printed ls e h =
        (λ i. e i ++ h i)
        ∙ ap (λ (t : List ℕ). t ++ text_of missing_written ls)
        (lack_written slot (codes "missing") ∙ line_is (codes "missing") (slot_and (shown_slot (asks slot)) []))
    by_tests true true slot rest printed ls e h =
        (λ i. e i ++ h i)
        ∙ ap (λ (t : List ℕ). t ++ text_of missing_written ls)
        (lack_written slot (codes "unverified") ∙ line_is (codes "unverified") (slot_and (shown_slot (asks slot)) []))
    by_tests true false slot rest printed ls e h = h

    lacks_written : (all : List Slot)
        → flat_map (print.missing_line hash keys given)
        (filter (λ slot. not (has hash keys given slot) || is_unverified_endorsement hash keys given slot) all)
        ≡ text_of missing_written (flat_map (shown_lack given) (map asks all))
    lacks_written [] = refl
    lacks_written (slot ∷ rest) =
        by_tests (has hash keys given slot) (is_unverified_endorsement hash keys given slot) slot
        (filter (λ x. not (has hash keys given x) || is_unverified_endorsement hash keys given x) rest)
        (print.missing_line hash keys given) (flat_map (shown_lack given) (map asks rest)) refl (lacks_written rest)

    gate_written : (unchecked : Bool) (o : Option Slot)
        → gate_line unchecked o ≡ line_text missing_written (shown_gate (option_map asks o) unchecked) ++ newline
    gate_written true None = refl
    gate_written false None = refl
    gate_written unchecked (Some slot) = line_is (codes "init not endorsed") (which_text slot.which ∷ label_party slot.label ∷ [])

    gate_is : (all : List Slot)
        → gate_of given (map asks all)
        ≡ shown_gate (option_map asks (find (λ slot. not (has hash keys given slot)) (filter (λ slot. is_endorsement slot.verb) all)))
        (list_any (is_unverified_endorsement hash keys given) all)
    gate_is all =
        let lacking : Asked → Bool = λ a. not (is_there given a) in
        ap (λ (o : Option Asked). shown_gate o (list_any (is_unchecked given) (map asks all)))
        (ap (find lacking) (mapped_filter asks is_needed_first all)
        ∙ mapped_find asks lacking (filter (λ slot. is_needed_first (asks slot)) all))
        ∙ ap (shown_gate (option_map asks (find (λ slot. lacking (asks slot)) (filter (λ slot. is_needed_first (asks slot)) all))))
        (mapped_any asks (is_unchecked given) all)

    pub missing_written_all : (s : Instance)
        → missing_text hash keys s given ≡ text_of missing_written (shown_missing given (transactions hash keys s))
    missing_written_all s =
        let all = slots hash keys s in
        let lacks = flat_map (shown_lack given) (map asks all) in
        let gate = gate_of given (map asks all) in
        (λ i. lacks_written all i ++ gate_written (has_unverified hash keys s given) (first_unendorsed hash keys s given) i)
        ∙ ap (λ (l : MissingLine). text_of missing_written lacks ++ (line_text missing_written l ++ newline)) (sym (gate_is all))
        ∙ ap (λ (t : List ℕ). text_of missing_written lacks ++ t) (sym (append-nil (line_text missing_written gate ++ newline)))
        ∙ sym (text_append missing_written lacks (gate ∷ []))
        ∙ ap (λ (as' : List Asked). text_of missing_written (flat_map (shown_lack given) as' ++ gate_of given as' ∷ []))
        (sym (all_asked hash keys s))

    -- ---- held

    -- what is printed of what was handed in for it
    abbrev held_with : Slot → Option Signed → List ℕ
    held_with slot o = elim slot.wallet [
      | None ↦
          print.line_of (codes "held" ∷ (slot_words slot
          ++ (hex_text (slot_key hash keys slot) ∷ hex_text (slot_digest hash slot)
          ∷ hex_text (bytes_or_none (option_map (λ (g : Signed). g.signature) o)) ∷ [])))
      | Some w ↦ print.witness_line hash slot w (items_or_none (option_map (λ (g : Signed). g.witness) o))
    ]

    abbrev with_wallet : Slot → Option Wallet → Slot
    with_wallet slot wallet = record slot { wallet = wallet }

    -- a wallet's witness, by the kind of its script
    witness_by : (slot : Slot) (w : Wallet) (items : List (List ℕ)) (b : Bool)
        → cond b
        (print.line_of (codes "held" ∷ (slot_words (with_wallet slot (Some w))
        ++ hex_text (second_item items) ∷ hex_text (slot_digest hash slot) ∷ hex_text (first_item items) ∷ [])))
        (print.line_of (codes "witness" ∷ (slot_words (with_wallet slot (Some w)) ++ map item_word items)))
        ≡ line_text held_written
        (shown_witness b (record (asks (with_wallet slot (Some w))) { digest = cond b (slot_digest hash slot) no_digest }) items)
        ++ newline
    witness_by slot w items true =
        let words = hex_text (second_item items) ∷ hex_text (slot_digest hash slot) ∷ hex_text (first_item items) ∷ [] in
        line_is (codes "held") (slot_and (shown_slot (asks (with_wallet slot (Some w)))) words)
    witness_by slot w items false =
        line_is (codes "witness") (slot_and (shown_slot (asks (with_wallet slot (Some w)))) (map item_word items))

    handed_written : (slot : Slot) (wallet : Option Wallet) (g : Signed)
        → held_with (with_wallet slot wallet) (Some g)
        ≡ line_text held_written (shown_handed wallet (asks (with_wallet slot wallet)) g) ++ newline
    handed_written slot None g =
        let words = hex_text (slot_key hash keys (with_wallet slot None)) ∷ hex_text (slot_digest hash slot) ∷ hex_text g.signature ∷ [] in
        line_is (codes "held") (slot_and (shown_slot (asks (with_wallet slot None))) words)
    handed_written slot (Some w) g = witness_by slot w g.witness (pays_to_key_hash w.script)

    any_found : (p : Signed → Bool) (gs : List Signed) → list_any p gs ≡ is_some (find p gs)
    any_found p [] = refl
    any_found p (g ∷ gs) = by_test (p g) (any_found p gs)
      where
        by_test : (b : Bool) → list_any p gs ≡ is_some (find p gs) → (b || list_any p gs) ≡ is_some (cond b (Some g) (find p gs))
        by_test true h = refl
        by_test false h = h

    by_handed : (o : Option Signed) (slot : Slot) (rest : List Slot) (printed : Slot → List ℕ) (ls : List HeldLine)
        → printed slot ≡ held_with slot o
        → flat_map printed rest ≡ text_of held_written ls
        → flat_map printed (cond (is_some o) (slot ∷ rest) rest) ≡ text_of held_written (if_handed (asks slot) o ++ ls)
    by_handed None slot rest printed ls e h = h
    by_handed (Some g) slot rest printed ls e h =
        (λ i. (e ∙ handed_written slot slot.wallet g) i ++ h i)

    holds_written : (all : List Slot)
        → flat_map (print.held_line hash keys given) (filter (has hash keys given) all)
        ≡ text_of held_written (flat_map (λ a. if_handed a (handed_in given a)) (map asks all))
    holds_written [] = refl
    holds_written (slot ∷ rest) =
        let later = filter (has hash keys given) rest in
        ap (λ (b : Bool). flat_map (print.held_line hash keys given) (cond b (slot ∷ later) later)) (any_found (is_for hash keys slot) given)
        ∙ by_handed (find (is_for hash keys slot) given) slot later (print.held_line hash keys given)
        (flat_map (λ a. if_handed a (handed_in given a)) (map asks rest)) refl (holds_written rest)

    pub held_written_all : (s : Instance)
        → held_text hash keys s given ≡ text_of held_written (shown_held given (transactions hash keys s))
    held_written_all s =
        holds_written (slots hash keys s)
        ∙ ap (λ (as' : List Asked). text_of held_written (flat_map (λ a. if_handed a (handed_in given a)) as')) (sym (all_asked hash keys s))
