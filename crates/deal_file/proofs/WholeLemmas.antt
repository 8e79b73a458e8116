-- The deal of all entries, need by need.
use Rattle.std.proofs.Common.{◌≡◌, ℕ, List, [], ◌∷◌, ◌++◌, map, Bool, true, false, not, cond, Option, Some, None}
use Rattle.std.proofs.Common.{refl, sym, ap, ◌∙◌, append_assoc, append-nil}
use Rattle.std.specs.Prelude.{◌&&◌, ◌||◌, option_map, is_some, Result, Ok, Err}
use Rattle.std.specs.List.{find, flat_map}
use Rattle.std.specs.Str.{bytes_eq}
use Rattle.spec_data.specs.Lists.{look_up, is_among}
use Rattle.spec_terms.specs.Advert.{Advert}
use Rattle.spec_terms.specs.Precondition.{names_of}
use Rattle.spec_bitcoin.specs.declared.label.Label.{Label}
use Rattle.spec_bitcoin.specs.declared.label.Label.TheVariants as labels
use Rattle.spec_compiler.specs.Keyed.OwnScripts.{OwnScripts}
use Rattle.spec_compiler.specs.Keyed.Keys.{given}
use Rattle.spec_deal.specs.declared.deal.Deal.{Deal}
use Rattle.spec_deal.specs.declared.deal.Needed.{Needed}
use Rattle.spec_deal.specs.declared.deal.Needed.TheVariants as needs
use Rattle.spec_deal.specs.declared.entry.Entry.{Entry}
use Rattle.spec_deal.specs.declared.fault.DealFault.{DealFault}
use Rattle.spec_deal.specs.declared.fault.DealFault.TheVariants as faults
use Rattle.spec_deal.specs.Needed.{needed, needed_labels, needed_deposits, needed_secrets, same_needed}
use Rattle.spec_deal.specs.Setting.{key_at, own_scripts}
use Rattle.spec_deal.specs.DealFile.{value_for, place_or_none, hash_or_none, with_key, deal_of, is_given, is_used, is_missing, whole_deal, first_missing}
use Rattle.deal_index.proofs.Finding.{any_found, find_alike}
use Rattle.deal_file.specs.declared.error.DealError.{DealError}
use Rattle.deal_file.specs.declared.error.DealError.TheVariants as deals
use Rattle.deal_file.specs.Gives.{Refuses}
use Rattle.deal_file.specs.Building.{own_deal, is_used_by, no_deal, joined, with_keys, with_deposits, with_hashes, given_to, given_to_all}
use Rattle.deal_file.specs.Building.{is_absent, onto_deal, unless_absent, whole, IsMissing}

some_map : {A B : Type 0} (f : A → B) (o : Option A) → is_some o ≡ is_some (option_map f o)
some_map f None = refl
some_map f (Some x) = refl

-- ---- what is used

-- the keys themselves have no part in what is used
pub used_alike : (keys : Label → List ℕ) (own : OwnScripts) (advert : Advert) (what : Needed)
    → is_used (given keys own) advert what ≡ is_used_by own advert what
used_alike keys own advert (needs.Key (labels.Deposit party)) = refl
used_alike keys own advert (needs.Key (labels.Branch contract path party)) = refl
used_alike keys own advert (needs.Deposit name) = refl
used_alike keys own advert (needs.Hash name) = refl
used_alike keys own advert needs.Network = refl
used_alike keys own advert (needs.Payee party) = refl

-- what is looked up is there where its name is among the names
pub looked_up : (wallets : List (List ℕ × List ℕ)) (name : List ℕ) → is_some (look_up name wallets) ≡ is_among name (names_of wallets)
looked_up [] name = refl
looked_up (w ∷ ws) name = by_test (bytes_eq (w.0) name) (looked_up ws name)
  where
    by_test : (b : Bool) → is_some (look_up name ws) ≡ is_among name (names_of ws)
        → is_some (cond b (Some (w.1)) (look_up name ws)) ≡ (b || is_among name (names_of ws))
    by_test true h = refl
    by_test false h = h

-- ---- all needs

module _ (own : OwnScripts) (advert : Advert) (entries : List Entry) where
  is_given_by : (what : Needed) → is_given entries what ≡ is_some (value_for entries what)
  is_given_by what =
      any_found (λ (e : Entry). same_needed e.needed what) entries
      ∙ some_map (λ (e : Entry). e.value) (find (λ (e : Entry). same_needed e.needed what) entries)

  abbrev absent : Needed → Bool
  absent what = is_absent own advert what (value_for entries what)

  abbrev judged : List Needed → Option Needed → Result Deal DealFault
  judged ns None = Ok (given_to_all entries ns)
  judged ns (Some what) = Err (faults.Missing what)

  -- the first need that is used and to which nothing is given, or what is given to all
  whole_by : (ns : List Needed) → whole own advert entries ns ≡ judged ns (find absent ns)
  whole_by [] = refl
  whole_by (what ∷ ns) =
      ap (λ later. unless_absent what (absent what) (onto_deal (given_to entries what) later)) (whole_by ns)
      ∙ by_value (absent what) (find absent ns)
    where
      by_value : (b : Bool) (o : Option Needed)
          → unless_absent what b (onto_deal (given_to entries what) (judged ns o)) ≡ judged (what ∷ ns) (cond b (Some what) o)
      by_value true o = refl
      by_value false None = refl
      by_value false (Some other) = refl

-- ---- by kinds

pub joined_assoc : (a b c : Deal) → joined (joined a b) c ≡ joined a (joined b c)
joined_assoc a b c =
    λ j. record {
      keys = append_assoc a.keys b.keys c.keys j;
      deposits = append_assoc a.deposits b.deposits c.deposits j;
      hashes = append_assoc a.hashes b.hashes c.hashes j;
      network = a.network;
      wallets = a.wallets;
      payees = a.payees;
    }

module _ (entries : List Entry) where
  given_both : (a : Deal) (ns ms : List Needed)
      → joined a (given_to_all entries (ns ++ ms)) ≡ joined (joined a (given_to_all entries ns)) (given_to_all entries ms)
  given_both a [] ms = ap (λ b. joined b (given_to_all entries ms)) (sym (joined_none a))
    where
      joined_none : (a : Deal) → joined a no_deal ≡ a
      joined_none a =
          λ j. record {
            keys = append-nil a.keys j;
            deposits = append-nil a.deposits j;
            hashes = append-nil a.hashes j;
            network = a.network;
            wallets = a.wallets;
            payees = a.payees;
          }
  given_both a (what ∷ ns) ms =
      sym (joined_assoc a (given_to entries what) (given_to_all entries (ns ++ ms)))
      ∙ given_both (joined a (given_to entries what)) ns ms
      ∙ ap (λ b. joined b (given_to_all entries ms)) (joined_assoc a (given_to entries what) (given_to_all entries ns))

  abbrev keys_of : List Label → List (Label × List ℕ)
  keys_of ls = flat_map (λ label. with_key label (value_for entries (needs.Key label))) ls

  given_keys : (ls : List Label) → given_to_all entries (map needs.Key ls) ≡ with_keys (keys_of ls)
  given_keys [] = refl
  given_keys (l ∷ ls) = ap (joined (given_to entries (needs.Key l))) (given_keys ls)

  given_deposits : (ns : List (List ℕ)) → given_to_all entries (map needs.Deposit ns)
      ≡ with_deposits (map (λ name. (name, place_or_none (value_for entries (needs.Deposit name)))) ns)
  given_deposits [] = refl
  given_deposits (n ∷ ns) = ap (joined (given_to entries (needs.Deposit n))) (given_deposits ns)

  given_hashes : (ns : List (List ℕ)) → given_to_all entries (map needs.Hash ns)
      ≡ with_hashes (map (λ name. (name, hash_or_none (value_for entries (needs.Hash name)))) ns)
  given_hashes [] = refl
  given_hashes (n ∷ ns) = ap (joined (given_to entries (needs.Hash n))) (given_hashes ns)

  given_deal : (advert : Advert) → joined (own_deal advert entries) (given_to_all entries (needed advert)) ≡ deal_of advert entries
  given_deal advert =
      let start = own_deal advert entries in
      let labels = map needs.Key (needed_labels advert) in
      let places = map needs.Deposit (needed_deposits advert) in
      let hashes = map needs.Hash (needed_secrets advert) in
      given_both start labels (places ++ hashes)
      ∙ given_both (joined start (given_to_all entries labels)) places hashes
      ∙ (λ j. joined (joined (joined start (given_keys (needed_labels advert) j)) (given_deposits (needed_deposits advert) j))
      (given_hashes (needed_secrets advert) j))
      ∙ (λ j. record {
        keys = (append-nil (keys_of (needed_labels advert) ++ []) ∙ append-nil (keys_of (needed_labels advert))) j;
        deposits = append-nil (map (λ name. (name, place_or_none (value_for entries (needs.Deposit name)))) (needed_deposits advert)) j;
        hashes = map (λ name. (name, hash_or_none (value_for entries (needs.Hash name)))) (needed_secrets advert);
        network = start.network;
        wallets = start.wallets;
        payees = start.payees;
      })

pub whole_is : (advert : Advert) (entries : List Entry)
    → onto_deal (own_deal advert entries) (whole (own_scripts (own_deal advert entries)) advert entries (needed advert))
    ≡ whole_deal advert entries (first_missing advert entries)
whole_is advert entries =
    let own = own_scripts (own_deal advert entries) in
    ap (onto_deal (own_deal advert entries)) (whole_by own advert entries (needed advert))
    ∙ ap (λ o. onto_deal (own_deal advert entries) (judged own advert entries (needed advert) o))
    (find_alike (absent own advert entries) (is_missing advert entries) same (needed advert))
    ∙ by_missing (first_missing advert entries)
  where
    same : (what : Needed) → absent (own_scripts (own_deal advert entries)) advert entries what ≡ is_missing advert entries what
    same what =
        ap (λ b. not b && is_used_by (own_scripts (own_deal advert entries)) advert what)
        (sym (is_given_by (own_scripts (own_deal advert entries)) advert entries what))
        ∙ ap (λ b. not (is_given entries what) && b)
        (sym (used_alike (key_at (deal_of advert entries).keys) (own_scripts (deal_of advert entries)) advert what))

    by_missing : (o : Option Needed)
        → onto_deal (own_deal advert entries) (judged (own_scripts (own_deal advert entries)) advert entries (needed advert) o)
        ≡ whole_deal advert entries o
    by_missing None = ap (λ deal. Ok deal) (given_deal entries advert)
    by_missing (Some what) = refl

-- ---- one need after another

pub onto_more : (a b : Deal) (r : Result Deal DealFault) → onto_deal a (onto_deal b r) ≡ onto_deal (joined a b) r
onto_more a b (Ok deal) = ap (λ d. Ok d) (sym (joined_assoc a b deal))
onto_more a b (Err fault) = refl

pub onto_all : (a : Deal) → onto_deal a (Ok no_deal) ≡ Ok a
onto_all a =
    ap (λ d. Ok d) (λ j. record {
      keys = append-nil a.keys j;
      deposits = append-nil a.deposits j;
      hashes = append-nil a.hashes j;
      network = a.network;
      wallets = a.wallets;
      payees = a.payees;
    })

-- the first of these needs is there, or isn't used
pub whole_more : (advert : Advert) (entries : List Entry) (a b : Deal) (what : Needed) (ns : List Needed)
    → is_absent (own_scripts a) advert what (value_for entries what) ≡ false → b ≡ joined a (given_to entries what)
    → onto_deal a (whole (own_scripts a) advert entries (what ∷ ns)) ≡ onto_deal b (whole (own_scripts b) advert entries ns)
whole_more advert entries a b what ns there grown =
    ap (λ absent. onto_deal a (unless_absent what absent (onto_deal (given_to entries what) (whole (own_scripts a) advert entries ns)))) there
    ∙ onto_more a (given_to entries what) (whole (own_scripts a) advert entries ns)
    ∙ ap (λ d. onto_deal d (whole (own_scripts d) advert entries ns)) (sym grown)

-- it is missing
pub whole_missing : (advert : Advert) (entries : List Entry) (a : Deal) (what : Needed) (ns : List Needed) (e : DealError)
    → IsMissing e what (is_absent (own_scripts a) advert what (value_for entries what))
    → Refuses e (onto_deal a (whole (own_scripts a) advert entries (what ∷ ns)))
whole_missing advert entries a what ns deals.Memory h = tt
whole_missing advert entries a what ns (deals.Refused fault) h =
    ap (λ absent. onto_deal a (unless_absent what absent (onto_deal (given_to entries what) (whole (own_scripts a) advert entries ns)))) (h.1)
    ∙ ap (λ f. Err f) (sym (h.0))
