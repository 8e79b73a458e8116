-- The signatures that are needed of a deal's transactions are those of its definition.
use Rattle.std.proofs.Common.{◌≡◌, ℕ, ◌+◌, List, [], ◌∷◌, ◌++◌, map, Bool, true, false, not, cond, Option, Some, None}
use Rattle.std.proofs.Common.{refl, sym, ap, ◌∙◌}
use Rattle.std.specs.Prelude.{filter, ◌&&◌, ◌||◌, if◌then◌else◌, is_some, option_map, codes}
use Rattle.std.specs.List.{find, flat_map, list_all, list_any}
use Rattle.spec_data.specs.Digits.{hex_text}
use Rattle.spec_terms.specs.Advert.{Advert}
use Rattle.spec_bitcoin.specs.declared.label.Label.{Label}
use Rattle.spec_compiler.specs.Keyed.Instance.{Instance}
use Rattle.spec_compiler.specs.Keyed.Keys.{Keys}
use Rattle.spec_compiler.specs.Keyed.OwnScripts.{pays_to_key_hash}
use Rattle.spec_compiler.specs.declared.unsigned.Spent.{Spent}
use Rattle.spec_tool.specs.Keyed.Listed.{Listed, listed}
use Rattle.spec_deal.specs.declared.signed.Signed.{Signed}
use Rattle.spec_deal.specs.declared.transaction.Transaction.{Transaction}
use Rattle.spec_deal.specs.declared.transaction.Wallet.{Wallet}
use Rattle.spec_deal.specs.DealText as texts
use Rattle.spec_deal.specs.DealText.{line_of, slot_words, item_word}
use Rattle.spec_deal.specs.Finished.{bytes_or_none, items_or_none, label_party, which_path, unsigned_refusal}
use Rattle.spec_deal.specs.Given as known
use Rattle.spec_deal.specs.Given.{has, endorsements, first_unendorsed, may_start, is_unverified_endorsement, has_unverified, unsettled}
use Rattle.spec_deal.specs.ReadyText as ready
use Rattle.spec_deal.specs.Slots.{Slot, input_slots, slots_from, listed_slots, slots, slot_bytes, slot_key, slot_digest, is_endorsement}
use Rattle.spec_deal.specs.Transactions.{signer, input, inputs, transaction, transactions, no_digest}
use Rattle.spec_deal.specs.Wallets.{input_wallet, has_digest, first_item, second_item}
use Rattle.deal_index.proofs.Finding.{any_found}
use Rattle.deal_missing.specs.Required.{Required, signer_required, input_required, inputs_required, transaction_required, required}
use Rattle.deal_missing.specs.Required.{is_there, is_unendorsed, is_unverified, is_endorsement_by}
use Rattle.deal_missing.specs.Required.{missing_line, held_line, items_line}
use Rattle.deal_missing.specs.Required.{line_if_held, line_if_witnessed, line_if_unverified, line_if_unsettled}
use Rattle.deal_missing.specs.Required.{told_if_unsettled, told_if_unverified, told_if_held, gate_line, gate_by, missing_by, held_by, ready_by, starts_by}
use Rattle.deal_missing.specs.Required.{path_and_party, refusal_of}

map_append : {X Y : Type 0} (f : X → Y) (xs ys : List X) → map f (xs ++ ys) ≡ map f xs ++ map f ys
map_append f [] ys = refl
map_append f (x ∷ xs) ys = ap (λ more. f x ∷ more) (map_append f xs ys)

some_map : {X Y : Type 0} (f : X → Y) (o : Option X) → is_some o ≡ is_some (option_map f o)
some_map f None = refl
some_map f (Some x) = refl

module _ (hash : List ℕ → List ℕ) (keys : Keys) where
  -- what is needed where this signature is needed
  abbrev pub requirement_of : Slot → Required
  requirement_of slot = record {
    which = slot.which;
    tx = slot_bytes slot;
    input = slot.input;
    digest = if has_digest slot.wallet then slot_digest hash slot else no_digest;
    signer = record { label = slot.label; key = slot_key hash keys slot; verb = slot.verb };
    wallet = slot.wallet;
  }

  -- ---- all that is needed

  module _ (advert : Advert) (l : Listed) where
    abbrev made : Transaction
    made = transaction hash keys advert l

    one_input : (k : ℕ) (spent : Spent) (labels : List Label)
        → map requirement_of (input_slots keys advert l k spent labels) ≡ input_required made k (input hash keys advert l k spent labels)
    one_input k spent [] = refl
    one_input k spent (label ∷ labels) =
        ap
        (λ more.
        signer_required made k (input hash keys advert l k spent [])
        (signer hash keys advert l.which (input_wallet keys advert l.which k) label)
        ∷ more)
        (one_input k spent labels)

    nobody : (k : ℕ) (spends : List Spent) → [] ≡ inputs_required made k (inputs hash keys advert l k spends [])
    nobody k [] = refl
    nobody k (spent ∷ spends) = nobody (k + 1) spends

    of_inputs : (k : ℕ) (spends : List Spent) (signers : List (List Label))
        → map requirement_of (slots_from keys advert l k spends signers) ≡ inputs_required made k (inputs hash keys advert l k spends signers)
    of_inputs k [] signers = refl
    of_inputs k (spent ∷ spends) [] = nobody k (spent ∷ spends)
    of_inputs k (spent ∷ spends) (labels ∷ signers) =
        map_append requirement_of (input_slots keys advert l k spent labels) (slots_from keys advert l (k + 1) spends signers)
        ∙ (λ j. one_input k spent labels j ++ of_inputs (k + 1) spends signers j)

    pub listed_required : map requirement_of (listed_slots keys advert l) ≡ transaction_required made
    listed_required = of_inputs 0 l.pending.spends l.signers

  all_listed : (advert : Advert) (ls : List Listed)
      → map requirement_of (flat_map (listed_slots keys advert) ls) ≡ required (map (transaction hash keys advert) ls)
  all_listed advert [] = refl
  all_listed advert (l ∷ ls) =
      map_append requirement_of (listed_slots keys advert l) (flat_map (listed_slots keys advert) ls)
      ∙ (λ j. listed_required advert l j ++ all_listed advert ls j)

  all_required : (s : Instance) → map requirement_of (slots hash keys s) ≡ required (transactions hash keys s)
  all_required s = all_listed s.advert (listed hash keys s)

  module _ (given : List Signed) where
    pub has_is : (slot : Slot) → has hash keys given slot ≡ is_there given (requirement_of slot)
    has_is slot =
        any_found (known.is_for hash keys slot) given
        ∙ some_map (λ (g : Signed). g.signature) (find (known.is_for hash keys slot) given)

    -- ---- the first that isn't there

    first_gone : (xs : List Slot)
        → option_map requirement_of (find (λ slot. not (has hash keys given slot)) xs) ≡ find (λ w. not (is_there given w)) (map requirement_of xs)
    first_gone [] = refl
    first_gone (x ∷ xs) =
        by_test (not (has hash keys given x)) (first_gone xs)
        ∙ ap (λ b. cond (not b) (Some (requirement_of x)) (find (λ w. not (is_there given w)) (map requirement_of xs))) (has_is x)
      where
        by_test : (b : Bool)
            → option_map requirement_of (find (λ slot. not (has hash keys given slot)) xs) ≡ find (λ w. not (is_there given w)) (map requirement_of xs)
            → option_map requirement_of (cond b (Some x) (find (λ slot. not (has hash keys given slot)) xs))
            ≡ cond b (Some (requirement_of x)) (find (λ w. not (is_there given w)) (map requirement_of xs))
        by_test true h = refl
        by_test false h = h

    abbrev endorsing : List Slot → List Slot
    endorsing xs = filter (λ (slot : Slot). is_endorsement slot.verb) xs

    abbrev first_of : List Slot → Option Slot
    first_of xs = find (λ slot. not (has hash keys given slot)) xs

    open_step : (x : Slot) (xs : List Slot) (a b : Bool)
        → option_map requirement_of (first_of (endorsing xs)) ≡ find (is_unendorsed given) (map requirement_of xs) → not (has hash keys given x) ≡ b
        → option_map requirement_of (first_of (cond a (x ∷ endorsing xs) (endorsing xs)))
        ≡ cond (a && b) (Some (requirement_of x)) (find (is_unendorsed given) (map requirement_of xs))
    open_step x xs true true h e = ap (λ b. option_map requirement_of (cond b (Some x) (first_of (endorsing xs)))) e
    open_step x xs true false h e = ap (λ b. option_map requirement_of (cond b (Some x) (first_of (endorsing xs)))) e ∙ h
    open_step x xs false b h e = h

    first_open : (xs : List Slot) → option_map requirement_of (first_of (endorsing xs)) ≡ find (is_unendorsed given) (map requirement_of xs)
    first_open [] = refl
    first_open (x ∷ xs) =
        open_step x xs (is_endorsement x.verb) (not (has hash keys given x)) (first_open xs) refl
        ∙ ap (λ b. cond (is_endorsement x.verb && not b) (Some (requirement_of x)) (find (is_unendorsed given) (map requirement_of xs))) (has_is x)

    -- ---- those that aren't verified

    both : (a b c d : Bool) → c ≡ d → (a && (b && c)) ≡ ((a && b) && d)
    both true b c d e = ap (λ x. b && x) e
    both false b c d e = refl

    unverified_is : (slot : Slot) → is_unverified_endorsement hash keys given slot ≡ is_unverified given (requirement_of slot)
    unverified_is slot = both (is_endorsement slot.verb) (is_some slot.wallet) (has hash keys given slot) (is_there given (requirement_of slot)) (has_is slot)

    any_is : (xs : List Slot) → list_any (is_unverified given) (map requirement_of xs) ≡ list_any (is_unverified_endorsement hash keys given) xs
    any_is [] = refl
    any_is (x ∷ xs) = λ j. sym (unverified_is x) j || any_is xs j

    -- ---- lines

    -- of one that is there, or isn't
    abbrev line_by : Slot → Bool → List ℕ
    line_by x b = line_of ((if b then codes "unverified" else codes "missing") ∷ slot_words x)

    abbrev unsettled_of : List Slot → List Slot
    unsettled_of xs = filter (λ slot. not (has hash keys given slot) || is_unverified_endorsement hash keys given slot) xs

    unsettled_step : (x : Slot) (xs : List Slot) (p q b : Bool)
        → flat_map (told_if_unsettled given) (map requirement_of xs) ≡ flat_map (texts.missing_line hash keys given) (unsettled_of xs)
        → has hash keys given x ≡ b
        → elim b [ true ↦ line_if_unverified (requirement_of x) (p && q) | false ↦ missing_line (requirement_of x) ]
        ++ flat_map (told_if_unsettled given) (map requirement_of xs)
        ≡ flat_map (texts.missing_line hash keys given) (cond (not b || (p && (q && b))) (x ∷ unsettled_of xs) (unsettled_of xs))
    unsettled_step x xs p q false h e = λ j. line_by x (sym e j) ++ h j
    unsettled_step x xs true true true h e = λ j. line_by x (sym e j) ++ h j
    unsettled_step x xs true false true h e = h
    unsettled_step x xs false q true h e = h

    by_state : (x : Slot) (xs : List Slot) (b : Bool)
        → line_if_unsettled (requirement_of x) b ++ flat_map (told_if_unsettled given) (map requirement_of xs)
        ≡ elim b [
          | true ↦ line_if_unverified (requirement_of x) (is_endorsement x.verb && is_some x.wallet)
          | false ↦ missing_line (requirement_of x)
        ]
        ++ flat_map (told_if_unsettled given) (map requirement_of xs)
    by_state x xs true = refl
    by_state x xs false = refl

    unsettled_told : (xs : List Slot)
        → flat_map (told_if_unsettled given) (map requirement_of xs) ≡ flat_map (texts.missing_line hash keys given) (unsettled_of xs)
    unsettled_told [] = refl
    unsettled_told (x ∷ xs) =
        ap (λ b. line_if_unsettled (requirement_of x) b ++ flat_map (told_if_unsettled given) (map requirement_of xs)) (sym (has_is x))
        ∙ by_state x xs (has hash keys given x)
        ∙ unsettled_step x xs (is_endorsement x.verb) (is_some x.wallet) (has hash keys given x) (unsettled_told xs) refl

    abbrev unverified_of : List Slot → List Slot
    unverified_of xs = filter (is_unverified_endorsement hash keys given) xs

    unverified_step : (x : Slot) (xs : List Slot) (p q b : Bool)
        → flat_map (told_if_unverified given) (map requirement_of xs) ≡ flat_map (texts.missing_line hash keys given) (unverified_of xs)
        → has hash keys given x ≡ b
        → line_if_unverified (requirement_of x) ((p && q) && b) ++ flat_map (told_if_unverified given) (map requirement_of xs)
        ≡ flat_map (texts.missing_line hash keys given) (cond (p && (q && b)) (x ∷ unverified_of xs) (unverified_of xs))
    unverified_step x xs true true true h e = λ j. line_by x (sym e j) ++ h j
    unverified_step x xs true true false h e = h
    unverified_step x xs true false b h e = h
    unverified_step x xs false q b h e = h

    unverified_told : (xs : List Slot)
        → flat_map (told_if_unverified given) (map requirement_of xs) ≡ flat_map (texts.missing_line hash keys given) (unverified_of xs)
    unverified_told [] = refl
    unverified_told (x ∷ xs) =
        ap
        (λ b.
        line_if_unverified (requirement_of x) ((is_endorsement x.verb && is_some x.wallet) && b)
        ++ flat_map (told_if_unverified given) (map requirement_of xs))
        (sym (has_is x))
        ∙ unverified_step x xs (is_endorsement x.verb) (is_some x.wallet) (has hash keys given x) (unverified_told xs) refl

    -- ---- those that are there

    abbrev found : Slot → Option Signed
    found x = find (known.is_for hash keys x) given

    abbrev told_by : Slot → Option Wallet → Option Signed → List ℕ
    told_by x o f = elim o [
      | None ↦ line_if_held (requirement_of x) (option_map (λ (g : Signed). g.signature) f)
      | Some wallet ↦ line_if_witnessed (requirement_of x) wallet (option_map (λ (g : Signed). g.witness) f)
    ]

    abbrev held_as : Slot → Option Wallet → List ℕ
    held_as x o = elim o [
      | None ↦ texts.key_held_line hash keys given x
      | Some wallet ↦ texts.witness_line hash x wallet (items_or_none (known.witness_for hash keys given x))
    ]

    -- what is shown as signed
    abbrev proved_line : Slot → List ℕ → List ℕ → List ℕ → List ℕ
    proved_line x key digest signature =
        line_of (codes "held" ∷ (slot_words x ++ hex_text key ∷ hex_text digest ∷ hex_text signature ∷ []))

    digest_is : (x : Slot) (b : Bool) → has_digest x.wallet ≡ b → b ≡ true → (requirement_of x).digest ≡ slot_digest hash x
    digest_is x b e h = ap (λ b. if b then slot_digest hash x else no_digest) (e ∙ h)

    by_kind : (x : Slot) (b : Bool) (items : List (List ℕ)) → (b ≡ true → (requirement_of x).digest ≡ slot_digest hash x)
        → (if b then held_line (requirement_of x) (second_item items) (first_item items) else items_line (requirement_of x) items)
        ≡ (if b then proved_line x (second_item items) (slot_digest hash x) (first_item items)
        else line_of (codes "witness" ∷ (slot_words x ++ map item_word items)))
    by_kind x true items digest = λ j. proved_line x (second_item items) (digest refl j) (first_item items)
    by_kind x false items digest = refl

    one_told : (x : Slot) (o : Option Wallet) (g : Signed) → x.wallet ≡ o → found x ≡ Some g → told_by x o (Some g) ≡ held_as x o
    one_told x None g e f =
        λ j. proved_line x (slot_key hash keys x) (digest_is x true (ap has_digest e) refl j)
        (bytes_or_none (option_map (λ (g : Signed). g.signature) (sym f j)))
    one_told x (Some wallet) g e f =
        by_kind x (pays_to_key_hash wallet.script) g.witness (digest_is x (pays_to_key_hash wallet.script) (ap has_digest e))
        ∙ ap (λ o. texts.witness_line hash x wallet (items_or_none (option_map (λ (g : Signed). g.witness) o))) (sym f)

    nothing_told : (x : Slot) (o : Option Wallet) → told_by x o None ≡ []
    nothing_told x None = refl
    nothing_told x (Some wallet) = refl

    abbrev held_of : List Slot → List Slot
    held_of xs = filter (has hash keys given) xs

    held_step : (x : Slot) (xs : List Slot) (f : Option Signed)
        → flat_map (told_if_held given) (map requirement_of xs) ≡ flat_map (texts.held_line hash keys given) (held_of xs)
        → found x ≡ f
        → told_by x x.wallet f ++ flat_map (told_if_held given) (map requirement_of xs)
        ≡ flat_map (texts.held_line hash keys given) (cond (is_some f) (x ∷ held_of xs) (held_of xs))
    held_step x xs None h e =
        ap (λ text. text ++ flat_map (told_if_held given) (map requirement_of xs)) (nothing_told x x.wallet) ∙ h
    held_step x xs (Some g) h e = λ j. one_told x x.wallet g refl e j ++ h j

    held_told : (xs : List Slot)
        → flat_map (told_if_held given) (map requirement_of xs) ≡ flat_map (texts.held_line hash keys given) (held_of xs)
    held_told [] = refl
    held_told (x ∷ xs) =
        held_step x xs (found x) (held_told xs) refl
        ∙ ap (λ b. flat_map (texts.held_line hash keys given) (cond b (x ∷ held_of xs) (held_of xs))) (sym (any_found (known.is_for hash keys x) given))

    gate_told : (unverified : Bool) (o : Option Slot) → gate_line unverified (option_map requirement_of o) ≡ texts.gate_line unverified o
    gate_told unverified None = refl
    gate_told unverified (Some slot) = refl

    gate_is : (xs : List Slot) → gate_by given (map requirement_of xs)
        ≡ texts.gate_line (list_any (is_unverified_endorsement hash keys given) xs) (first_of (endorsing xs))
    gate_is xs =
        (λ j. gate_line (any_is xs j) (sym (first_open xs) j))
        ∙ gate_told (list_any (is_unverified_endorsement hash keys given) xs) (first_of (endorsing xs))

    -- ---- whether all endorsements are there

    none_fails : (p : Slot → Bool) (xs : List Slot) → not (is_some (find (λ x. not (p x)) xs)) ≡ list_all p xs
    none_fails p [] = refl
    none_fails p (x ∷ xs) = by_test (p x) (none_fails p xs)
      where
        by_test : (b : Bool) → not (is_some (find (λ y. not (p y)) xs)) ≡ list_all p xs
            → not (is_some (cond (not b) (Some x) (find (λ y. not (p y)) xs))) ≡ (b && list_all p xs)
        by_test true h = h
        by_test false h = refl

    module _ (s : Instance) (ts : List Transaction) (are : ts ≡ transactions hash keys s) where
      these : required ts ≡ map requirement_of (slots hash keys s)
      these = ap required are ∙ sym (all_required s)

      pub missing_is : missing_by given (required ts) ≡ texts.missing_text hash keys s given
      missing_is =
          ap (missing_by given) these
          ∙ (λ j. unsettled_told (slots hash keys s) j ++ gate_is (slots hash keys s) j)

      pub ready_is : ready_by given (required ts)
          ≡ ready.unverified_text hash keys s given ++ texts.gate_line (has_unverified hash keys s given) (first_unendorsed hash keys s given)
      ready_is =
          ap (ready_by given) these
          ∙ (λ j. unverified_told (slots hash keys s) j ++ gate_is (slots hash keys s) j)

      pub held_is : held_by given (required ts) ≡ texts.held_text hash keys s given
      held_is = ap (held_by given) these ∙ held_told (slots hash keys s)

      pub unendorsed_is : option_map path_and_party (find (is_unendorsed given) (required ts))
          ≡ option_map (λ (slot : Slot). (which_path slot.which, label_party slot.label)) (first_unendorsed hash keys s given)
      unendorsed_is =
          ap (λ ws. option_map path_and_party (find (is_unendorsed given) ws)) these
          ∙ ap (option_map path_and_party) (sym (first_open (slots hash keys s)))
          ∙ by_found (first_unendorsed hash keys s given)
        where
          by_found : (o : Option Slot) → option_map path_and_party (option_map requirement_of o)
              ≡ option_map (λ (slot : Slot). (which_path slot.which, label_party slot.label)) o
          by_found None = refl
          by_found (Some slot) = refl

      pub starts_is : not (is_some (option_map path_and_party (find (is_unendorsed given) (required ts)))) ≡ may_start hash keys s given
      starts_is =
          ap (λ o. not (is_some o)) unendorsed_is
          ∙ ap not (sym (some_map (λ (slot : Slot). (which_path slot.which, label_party slot.label)) (first_unendorsed hash keys s given)))
          ∙ none_fails (has hash keys given) (endorsements hash keys s)

      first_is : option_map requirement_of (first_unendorsed hash keys s given) ≡ find (is_unendorsed given) (required ts)
      first_is = first_open (slots hash keys s) ∙ ap (find (is_unendorsed given)) (sym these)

      pub ready_when : starts_by given (required ts) ≡ ready.is_ready hash keys s given
      ready_when =
          λ j. (ap (λ o. not (is_some o)) (sym first_is)
          ∙ ap not (sym (some_map requirement_of (first_unendorsed hash keys s given)))
          ∙ none_fails (has hash keys given) (endorsements hash keys s)) j
          && not ((ap (list_any (is_unverified given)) these ∙ any_is (slots hash keys s)) j)

    -- ---- of one transaction

    pub unsigned_is : (advert : Advert) (l : Listed) (t : Transaction) → t ≡ transaction hash keys advert l
        → option_map refusal_of (find (λ w. not (is_there given w)) (transaction_required t))
        ≡ option_map unsigned_refusal (find (λ slot. not (has hash keys given slot)) (listed_slots keys advert l))
    unsigned_is advert l t is =
        ap (λ t. option_map refusal_of (find (λ w. not (is_there given w)) (transaction_required t))) is
        ∙ ap (λ ws. option_map refusal_of (find (λ w. not (is_there given w)) ws)) (sym (listed_required advert l))
        ∙ ap (option_map refusal_of) (sym (first_gone (listed_slots keys advert l)))
        ∙ by_found (find (λ slot. not (has hash keys given slot)) (listed_slots keys advert l))
      where
        by_found : (o : Option Slot) → option_map refusal_of (option_map requirement_of o) ≡ option_map unsigned_refusal o
        by_found None = refl
        by_found (Some slot) = refl

  any_map : (p : Required → Bool) (xs : List Slot) → list_any p (map requirement_of xs) ≡ list_any (λ x. p (requirement_of x)) xs
  any_map p [] = refl
  any_map p (x ∷ xs) = ap (λ b. p (requirement_of x) || b) (any_map p xs)

  pub endorsed_is : (advert : Advert) (l : Listed) (t : Transaction) (party : List ℕ) → t ≡ transaction hash keys advert l
      → list_any (is_endorsement_by party) (transaction_required t) ≡ ready.is_endorsed_by keys advert party l
  endorsed_is advert l t party is =
      ap (λ t. list_any (is_endorsement_by party) (transaction_required t)) is
      ∙ ap (list_any (is_endorsement_by party)) (sym (listed_required advert l))
      ∙ any_map (is_endorsement_by party) (listed_slots keys advert l)
