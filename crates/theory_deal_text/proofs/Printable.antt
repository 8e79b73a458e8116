-- All that is printed of a deal that is taken can be: its transactions, deposits and payees have names and numbers as lines have them.
use Rattle.std.proofs.Common.{◌≡◌, ℕ, ◌+◌, ◌≤◌, ◌<◌, ◌^◌, List, [], ◌∷◌, length, map, Bool, true, false, Option, Some, None, Ok}
use Rattle.std.proofs.Common.{refl, sym, ap, subst, arith, cond, inl, inr, ◌++◌}
use Rattle.std.specs.Prelude.{◌&&◌, not, nat_le, sum_by, drop, slice_index}
use Rattle.std.specs.List.{list_all, AllByRecursion}
use Rattle.std.specs.Option.{option_map}
use Rattle.std.specs.Char.{is_ascii_uppercase}
use Rattle.std.proofs.lemmas.Bool.{and_parts}
use Rattle.std.proofs.lemmas.Bool.Decides.{nat_tests}
use Rattle.std.proofs.lemmas.List.Sums.{sum_by-cons}
use Rattle.spec_data.specs.Hashes.{HashesBytes}
use Rattle.spec_data.specs.Lists.{is_among, look_up}
use Rattle.spec_data.specs.Ranges.{max_money}
use Rattle.spec_terms.specs.Advert.{Advert}
use Rattle.spec_terms.specs.Faults.{IsWellFormed}
use Rattle.spec_terms.specs.Precondition.{Holding, deposits}
use Rattle.spec_terms.specs.Readable.{is_name, is_readable_entry, is_readable_pre, is_readable_contract}
use Rattle.spec_terms.specs.declared.path.PathStep.{PathStep}
use Rattle.spec_terms.specs.declared.pre.Pre.{Pre}
use Rattle.spec_terms.specs.declared.pre.Pre.TheVariants.{Persistent, Volatile, Secret}
use Rattle.spec_bitcoin.specs.declared.tx.OutPoint.{OutPoint}
use Rattle.spec_bitcoin.specs.Spelling.{IsTransaction}
use Rattle.spec_compiler.specs.declared.unsigned.Spent.{Spent}
use Rattle.spec_compiler.specs.declared.unsigned.Unsigned.{Unsigned}
use Rattle.spec_compiler.specs.Keyed.Keys.{Keys}
use Rattle.spec_compiler.specs.Keyed.Instance.{Instance}
use Rattle.spec_compiler.specs.Keyed.Transactions.{input_of, tx_of, outpoint_or_none}
use Rattle.spec_compiler.specs.Keyed.Compilation.{path_transactions}
use Rattle.spec_compiler.specs.Keyed.ByPath.{unsigned_at}
use Rattle.spec_text.specs.Words.{◌>>=◌}
use Rattle.spec_run.specs.Firing.{witnessed}
use Rattle.spec_bitcoin.specs.declared.tx.TxIn.{TxIn}
use Rattle.spec_tool.specs.declared.which.Which.{Which}
use Rattle.spec_tool.specs.declared.which.Which.TheVariants as names
use Rattle.spec_tool.specs.Keyed.Listed.{Listed, initial_listed, path_listed, listed, listed_at}
use Rattle.spec_deal.specs.declared.deal.Deal.{Deal}
use Rattle.spec_address.specs.Address.{is_hrp_character, is_hrp, is_witness_output, version_of, letters, letter_of, separator, text_of, short, address}
use Rattle.spec_address.specs.Checksum.{check_values}
use Rattle.spec_address.specs.Groups.{groups_of}
use Rattle.spec_deal.specs.declared.deal.Needed.{Needed}
use Rattle.spec_deal.specs.declared.deal.Needed.TheVariants as needs
use Rattle.spec_deal.specs.declared.entry.Entry.{Entry}
use Rattle.spec_deal.specs.declared.entry.Value.{Value}
use Rattle.spec_deal.specs.declared.entry.Value.TheVariants.{Key as key, Place as place, Wallet as wallet, Hash as digest}
use Rattle.spec_deal.specs.declared.entry.Value.TheVariants.{Network as hrp, Script as script}
use Rattle.spec_deal.specs.DealFile.{value_for, network_given, read_deal}
use Rattle.spec_deal.specs.Needed.{needed_deposits, same_needed}
use Rattle.spec_deal.specs.Setting.{deal_keys, deal_instance}
use Rattle.spec_deal.specs.Verifier.{Verifier}
use Rattle.theory_calculus.specs.Members.{Is_in}
use Rattle.theory_calculus.proofs.Names.{in_named, looked_in, named_looked}
use Rattle.theory_script.specs.Keyed.Money.{IsKept}
use Rattle.theory_script.proofs.Keyed.Money.{initial_kept, paths_kept}
use Rattle.theory_script.proofs.Keyed.Stands.{some_same}
use Rattle.theory_script.proofs.Keyed.Transactions.{AreRight, transactions_right}
use Rattle.theory_psbt.proofs.Signers.{signers_for_each}
use Rattle.theory_deal.proofs.Ledger.Funded.{funded_at}
use Rattle.theory_deal.proofs.ReadAgain.{fits}
use Rattle.theory_deal.proofs.ReadDeals.{fits as fits_value, AllFit, value_there, is_of, deals_are_sized}
use Rattle.theory_deal.proofs.WholeDeals.{deals_give_all}
use Rattle.theory_deal.proofs.Widths.DealBytes.{deal_widths}
use Rattle.theory_deal.proofs.Widths.Outputs.{small_at}
use Rattle.theory_deal.proofs.Widths.Places.{IsSpendable, spendable_at}
use Rattle.theory_play_text.specs.Printable.{IsWide, IsNamed}
use Rattle.theory_play_text.proofs.LineWords.{is_blank, IsPlain, lacks_where}
use Rattle.theory_play_text.proofs.Named.{IsHeld, deposits_named, has_names}
use Rattle.theory_text.proofs.Lines.LineBytes.{ends_line}
use Rattle.theory_text.proofs.Lines.Separated.{Lacks, lacks_append}
use Rattle.theory_deal_text.proofs.PlanRead.{IsAddress}
use Rattle.theory_deal_text.proofs.PlanTexts.{HasSigners}
use Rattle.theory_deal_text.proofs.PsbtBytes.{lacks_at}
use Rattle.theory_deal_text.proofs.PsbtTexts.{HasValue}
use Rattle.theory_deal_text.proofs.Short.{IsShort, short_at}
use Rattle.theory_deal_text.proofs.Signing.{IsSigned, signed_at}

-- ---- transactions

-- numbers have their widths, there are few inputs and outputs, and whoever signs has a name
pub record IsPrintable (keys : Keys) (advert : Advert) (l : Listed) : Type 0 where
  pub tx : IsTransaction (tx_of l.pending)
  pub spends : AllByRecursion IsSpendable l.pending.spends
  pub values : AllByRecursion HasValue l.pending.spends
  pub few_spends : length l.pending.spends ≤ 33
  pub few_outputs : length l.pending.outputs ≤ 64
  pub short : IsShort l.pending
  pub signed : IsSigned keys advert l
  pub each_input : HasSigners l

-- without witnesses
bare : (is : List TxIn) → witnessed is [] ≡ is
bare [] = refl
bare (i ∷ is) = refl

each_value : (spends : List Spent) → sum_by (λ x. x.value) spends ≤ max_money + max_money → AllByRecursion HasValue spends
each_value [] h = tt
each_value (x ∷ spends) h =
    let sum = sum_by-cons (λ (y : Spent). y.value) x spends in
    (omega (arith, sum, h), each_value spends (omega (arith, sum, h)))

fee_low : (a : Advert) → IsWellFormed a → a.fee ≤ max_money
fee_low a well =
    let r = (and_parts (is_readable_pre a.pre) (nat_le a.fee max_money && is_readable_contract a.root) well.readable).1 in
    let f = (and_parts (nat_le a.fee max_money) (is_readable_contract a.root) r).0 in
    grind (arith, nat_tests, f)

kept_at : (hash : List ℕ → List ℕ) (keys : Keys) (s : Instance) → IsWellFormed s.advert → (which : Which) (l : Listed)
    → listed_at hash keys s which ≡ Some l → IsKept s.advert l.pending
kept_at hash keys s well names.Init l e = subst (λ (x : Listed). IsKept s.advert x.pending) (some_same e) (initial_kept hash keys s well)
kept_at hash keys s well (names.At path) l e = by_unsigned (unsigned_at hash keys s path) refl e
  where
    by_unsigned : (o : Option Unsigned) → unsigned_at hash keys s path ≡ o → option_map (path_listed s path) o ≡ Some l
        → IsKept s.advert l.pending
    by_unsigned None there k = cc
    by_unsigned (Some d) there k =
        subst (λ (x : Listed). IsKept s.advert x.pending) (some_same k) (paths_kept hash keys s well path d there)

-- ---- a value that a line can show
abbrev HasWide : List ℕ × Holding → Type 0
HasWide d = IsWide (d.1).value

entry_low : (party name : List ℕ) (value : ℕ) → (is_name party && (nat_le value max_money && is_name name)) ≡ true → IsWide value
entry_low party name value h =
    let p = and_parts (is_name party) (nat_le value max_money && is_name name) h in
    let low = (and_parts (nat_le value max_money) (is_name name) p.1).0 in
    let small : value ≤ max_money = grind (arith, nat_tests, low) in
    omega (arith, small)

values_wide : (pre : List Pre) → list_all is_readable_entry pre ≡ true → AllByRecursion HasWide (deposits pre)
values_wide [] h = tt
values_wide (Persistent party value name ∷ pre) h =
    let p = and_parts _ (list_all is_readable_entry pre) h in (entry_low party name value p.0, values_wide pre p.1)
values_wide (Volatile party value name ∷ pre) h =
    let p = and_parts _ (list_all is_readable_entry pre) h in (entry_low party name value p.0, values_wide pre p.1)
values_wide (Secret party name ∷ pre) h = values_wide pre (and_parts _ (list_all is_readable_entry pre) h).1

module _ (v : Verifier) (hash : List ℕ → List ℕ) (bytes : HashesBytes hash) (advert : Advert) (well : IsWellFormed advert)
    (text : List ℕ) (deal : Deal) (read : read_deal v advert text ≡ Ok deal) where
  abbrev keys : Keys
  keys = deal_keys deal

  abbrev s : Instance
  s = deal_instance advert deal

  pub printable_at : (which : Which) (l : Listed) → listed_at hash (deal_keys deal) (deal_instance advert deal) which ≡ Some l
      → IsPrintable (deal_keys deal) advert l
  printable_at which l e =
      let sized = deals_are_sized v hash advert text deal read in
      let applied = sized.applied well in
      let widths = deal_widths v hash advert text deal read in
      let spends =
      spendable_at hash bytes keys s applied (deals_give_all v advert text deal read).deposits widths.places sized.are_keys widths.wallets
      widths.keys widths.hashes which l e in
      let funded = funded_at hash keys s well which l e in
      let small = small_at hash bytes keys s widths.payees well which l e in
      let kept = kept_at hash keys s well which l e in
      let fee = fee_low advert well in
      let money = funded.money in
      record {
        tx = subst (λ (is : List TxIn). IsTransaction (record (tx_of l.pending) { inputs = is })) (bare (map input_of l.pending.spends))
            (fits hash keys s bytes l.pending [] funded small spends tt);
        spends = spends;
        values = each_value l.pending.spends (omega (arith, kept, fee, money));
        few_spends = small.inputs;
        few_outputs = small.outputs;
        short = short_at hash bytes keys s applied sized.are_keys widths.wallets widths.payees which l e;
        signed = signed_at hash keys s well (omega arith) which l e;
        each_input = signers_for_each hash keys s which l e;
      }

  paths_printable : (ps : List (List PathStep × Unsigned)) → AreRight (unsigned_at hash (deal_keys deal) (deal_instance advert deal)) ps
      → AllByRecursion (IsPrintable (deal_keys deal) advert) (map (λ p. path_listed (deal_instance advert deal) (p.0) (p.1)) ps)
  paths_printable [] h = tt
  paths_printable (p ∷ ps) h = (
    printable_at (names.At p.0) (path_listed s (p.0) (p.1)) (ap (option_map (path_listed s (p.0))) h.0),
    paths_printable ps h.1,
  )

  pub listed_printable : AllByRecursion (IsPrintable (deal_keys deal) advert) (listed hash (deal_keys deal) (deal_instance advert deal))
  listed_printable = (
    printable_at names.Init (initial_listed hash keys s) refl,
    paths_printable (path_transactions hash keys s) (transactions_right hash keys s),
  )

  -- ---- deposits

  -- a deposit of the contract lies at a place, has a value and names
  pub record IsPlaced (d : List ℕ × Holding) : Type 0 where
    pub name : IsNamed (d.0)
    pub vout : IsWide (outpoint_or_none (look_up (d.0) deal.deposits)).vout
    pub value : IsWide (d.1).value

  place_of : (name : List ℕ) → is_among name (needed_deposits advert) ≡ true → IsWide (outpoint_or_none (look_up name deal.deposits)).vout
  place_of name h =
      let bound = (deals_give_all v advert text deal read).deposits in
      let there = named_looked deal.deposits name (subst (λ (ns : List (List ℕ)). is_among name ns ≡ true) (sym bound) h) in
      let place = (deal_widths v hash advert text deal read).places (name, there.0) (looked_in deal.deposits name (there.0) there.1) in
      let vout = place.vout in
      let wide : (there.0).vout < 2 ^ 64 = omega (arith, vout) in
      subst (λ (o : Option OutPoint). IsWide (outpoint_or_none o).vout) (sym there.1) wide

  placed : (ds : List (List ℕ × Holding)) → AllByRecursion IsHeld ds → AllByRecursion HasWide ds
      → ((d : List ℕ × Holding) → Is_in d ds → Is_in d (deposits advert.pre)) → AllByRecursion IsPlaced ds
  placed [] h w f = tt
  placed (d ∷ ds) h w f = (
    record { name = (h.0).0; vout = place_of (d.0) (in_named (deposits advert.pre) d (f d (inl refl))); value = w.0 },
    placed ds h.1 w.1 (λ x i. f x (inr i)),
  )

  pub deposits_placed : AllByRecursion IsPlaced (deposits advert.pre)
  deposits_placed =
      let readable = (has_names advert well).pre in
      placed (deposits advert.pre) (deposits_named advert.pre readable) (values_wide advert.pre readable) (λ d i. i)

-- ---- networks

-- a network that is named has an HRP as addresses have it
abbrev pub IfHrp : Option (List ℕ) → Type 0
IfHrp None = Unit {0}
IfHrp (Some part) = is_hrp part ≡ true

pub network_named : (v : Verifier) (advert : Advert) (text : List ℕ) (deal : Deal) → read_deal v advert text ≡ Ok deal → IfHrp deal.network
network_named v advert text deal read =
    let d = is_of v advert text deal read in
    subst (λ (x : Deal). IfHrp x.network) d.same (by_value d.entries d.fit (value_for d.entries needs.Network) refl)
  where
    of_value : (value : Value) → (what : Needed) → same_needed what needs.Network ≡ true → fits_value v what value ≡ true
        → IfHrp (network_given (Some value))
    of_value (key bytes) what m h = tt
    of_value (place outpoint) what m h = tt
    of_value (wallet outpoint own) what m h = tt
    of_value (digest bytes) what m h = tt
    of_value (script bytes) what m h = tt
    of_value (hrp part) needs.Network m h = h
    of_value (hrp part) (needs.Key label) m h = cc
    of_value (hrp part) (needs.Deposit name) m h = cc
    of_value (hrp part) (needs.Hash name) m h = cc
    of_value (hrp part) (needs.Payee party) m h = cc

    by_value : (entries : List Entry) → AllFit v entries → (o : Option Value) → value_for entries needs.Network ≡ o
        → IfHrp (network_given o)
    by_value entries all None e = tt
    by_value entries all (Some value) e =
        let x = value_there v entries all needs.Network value e in
        of_value value x.entry.needed x.of_it x.fitting

-- an address has neither spaces nor line ends
character_blank : (b : ℕ) → is_hrp_character b ≡ true → is_blank b ≡ false
character_blank b h =
    let low = (and_parts (nat_le 33 b) (nat_le b 126 && not (is_ascii_uppercase b)) h).0 in
    grind (arith, nat_tests, low)

character_ends : (b : ℕ) → is_hrp_character b ≡ true → ends_line b ≡ false
character_ends b h =
    let low = (and_parts (nat_le 33 b) (nat_le b 126 && not (is_ascii_uppercase b)) h).0 in
    grind (arith, nat_tests, low)

all_lack : (test passes : ℕ → Bool) → ((b : ℕ) → passes b ≡ true → test b ≡ false) → (xs : List ℕ) → list_all passes xs ≡ true
    → Lacks test xs
all_lack test passes f [] h = tt
all_lack test passes f (x ∷ xs) h = let p = and_parts (passes x) (list_all passes xs) h in (f x p.0, all_lack test passes f xs p.1)

letters_lack : (test : ℕ → Bool) → ((v : ℕ) → test (letter_of v) ≡ false) → (values : List ℕ) → Lacks test (map letter_of values)
letters_lack test f [] = tt
letters_lack test f (v ∷ values) = (f v, letters_lack test f values)

letter_blank : (v : ℕ) → is_blank (letter_of v) ≡ false
letter_blank v = lacks_at is_blank letters v (lacks_where is_blank letters refl) refl

letter_ends : (v : ℕ) → ends_line (letter_of v) ≡ false
letter_ends v = lacks_at ends_line letters v (lacks_where ends_line letters refl) refl

text_plain : (part : List ℕ) (version : ℕ) (groups : List ℕ) → is_hrp part ≡ true → IsPlain (text_of part version groups)
text_plain part version groups h =
    let p = (and_parts (nat_le 1 (length part)) (nat_le (length part) 18 && list_all is_hrp_character part) h).1 in
    let all = (and_parts (nat_le (length part) 18) (list_all is_hrp_character part) p).1 in
    let values = version ∷ groups ++ check_values part version (version ∷ groups) in
    record {
      spaces = lacks_append is_blank part (separator ∷ map letter_of values) (all_lack is_blank is_hrp_character character_blank part all)
          (refl, letters_lack is_blank letter_blank values);
      ends = lacks_append ends_line part (separator ∷ map letter_of values) (all_lack ends_line is_hrp_character character_ends part all)
          (refl, letters_lack ends_line letter_ends values);
    }

address_plain : (part bytes : List ℕ) → is_hrp part ≡ true → IsAddress (address part bytes)
unfolding address
address_plain part bytes h = by_output (is_witness_output bytes)
  where
    by_length : (text : List ℕ) (b : Bool) → IsPlain text → IsAddress (cond b (Some text) None)
    by_length text true p = p
    by_length text false p = tt

    by_output : (b : Bool)
        → IsAddress (cond b (short (text_of part (version_of (slice_index bytes 0)) (groups_of (drop 2 bytes)))) None)
    by_output true =
        let text = text_of part (version_of (slice_index bytes 0)) (groups_of (drop 2 bytes)) in
        by_length text (nat_le (length text) 90) (text_plain part (version_of (slice_index bytes 0)) (groups_of (drop 2 bytes)) h)
    by_output false = tt

pub shown_address : (network : Option (List ℕ)) (bytes : List ℕ) → IfHrp network → IsAddress (network >>= λ part. address part bytes)
shown_address None bytes h = tt
shown_address (Some part) bytes h = address_plain part bytes h
