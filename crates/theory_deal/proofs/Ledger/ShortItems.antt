-- No item of a finished transaction's witnesses is longer than an item may be, its scripts apart.
use Rattle.std.proofs.Common.{◌≡◌, ℕ, ◌+◌, List, [], ◌∷◌, true, Option, Some, None, refl, ap, ◌∙◌}
use Rattle.std.specs.Prelude.{◌&&◌, nat_le, length}
use Rattle.std.specs.List.{list_all, find}
use Rattle.std.specs.Option.{option_map}
use Rattle.std.specs.Str.{bytes_eq}
use Rattle.std.proofs.lemmas.Bool.{and_parts, and_from}
use Rattle.spec_terms.specs.Core.{core, reveals_of}
use Rattle.spec_terms.specs.declared.path.PathStep.{PathStep}
use Rattle.spec_bitcoin.specs.declared.label.Label.{Label}
use Rattle.spec_bitcoin.specs.Verdict.{items_of}
use Rattle.spec_compiler.specs.Scripts.{digest_of}
use Rattle.spec_compiler.specs.Witness.{witness_stack}
use Rattle.spec_compiler.specs.Keyed.Keys.{Keys}
use Rattle.spec_compiler.specs.Keyed.Instance.{Instance}
use Rattle.spec_compiler.specs.declared.unsigned.Spent.{Spent}
use Rattle.spec_compiler.specs.Keyed.ByPath.{PathEnd, at_position, at_branch, end_at}
use Rattle.spec_compiler.specs.Keyed.Statements.{AreKeyDeposits, is_secret, is_short}
use Rattle.spec_tool.specs.declared.which.Which.{Which}
use Rattle.spec_tool.specs.declared.which.Which.TheVariants as names
use Rattle.spec_tool.specs.Keyed.Listed.{Listed}
use Rattle.spec_deal.specs.declared.entry.Shown.{Shown}
use Rattle.spec_deal.specs.declared.signed.Signed.{Signed}
use Rattle.spec_deal.specs.declared.transaction.Wallet.{Wallet}
use Rattle.spec_deal.specs.Wallets.{input_wallet}
use Rattle.spec_deal.specs.Finished.{bytes_or_none, input_signatures, deposit_witness, deposit_witnesses, choices_at, strings_of, branch_witness}
use Rattle.spec_deal.specs.Finished.{path_witnesses, witnesses}
use Rattle.theory_calculus.specs.Members.{Is_in}
use Rattle.theory_calculus.proofs.Members.{all_in, found}
use Rattle.theory_script.proofs.Keyed.Witnesses.{stack_short}
use Rattle.theory_deal.specs.Finished.{are_short, do_fit}
use Rattle.theory_deal.proofs.FinishedOpens.{items_before, input_short}
use Rattle.theory_deal.proofs.OfKeys.{no_wallet}
use Rattle.theory_deal.proofs.Ledger.Verdicts.{AllShort}

-- of the inputs from number k on that keys of the deal sign
abbrev pub KeysShort : (ℕ → Option Wallet) → ℕ → List (List (List ℕ)) → Type 0
KeysShort wallet k [] = Unit {0}
KeysShort wallet k (witness ∷ others) = (wallet k ≡ None → list_all is_short (items_of witness) ≡ true) × KeysShort wallet (k + 1) others

-- a string that fits its secret is no longer than an item may be
pub string_short : (hash : List ℕ → List ℕ) (s : Instance) (strings : List Shown) → do_fit hash s strings ≡ true → (x : Shown)
    → Is_in x strings → is_short x.bytes ≡ true
string_short hash s strings fit x there =
    let p = all_in (λ (y : Shown). is_secret hash y.bytes (digest_of s.hashes y.name)) strings x fit there in
    (and_parts (nat_le 16 (length x.bytes)) (nat_le (length x.bytes) 520)
    (and_parts (nat_le 16 (length x.bytes) && nat_le (length x.bytes) 520) _ p).0).1

module _ (hash : List ℕ → List ℕ) (keys : Keys) (s : Instance) (given : List Signed) (strings : List Shown)
    (short : are_short given ≡ true) (fit : do_fit hash s strings ≡ true) where
  one_string : (name : List ℕ) (o : Option Shown) → find (λ (x : Shown). bytes_eq x.name name) strings ≡ o
      → is_short (bytes_or_none (option_map (λ (x : Shown). x.bytes) o)) ≡ true
  one_string name None e = refl
  one_string name (Some x) e = string_short hash s strings fit x (found (λ (y : Shown). bytes_eq y.name name) strings x e).0

  strings_short : (required : List (List ℕ)) → list_all is_short (strings_of strings required) ≡ true
  strings_short [] = refl
  strings_short (name ∷ required) =
      and_from _ _ (one_string name (find (λ (x : Shown). bytes_eq x.name name) strings) refl) (strings_short required)

  deposits_short : (l : Listed) (k : ℕ) (spends : List Spent) (signers : List (List Label))
      → KeysShort (input_wallet keys s.advert l.which) k (deposit_witnesses hash keys s given l k spends signers)
  deposits_short l k [] signers = tt
  deposits_short l k (spent ∷ spends) [] = tt
  deposits_short l k (spent ∷ spends) (labels ∷ signers) =
      (λ none. by_wallet (input_wallet keys s.advert l.which k) none, deposits_short l (k + 1) spends signers)
    where
      by_wallet : (o : Option Wallet) → o ≡ None → list_all is_short (items_of (deposit_witness hash keys s given l k spent labels o)) ≡ true
      by_wallet None e =
          ap (list_all is_short) (items_before (input_signatures hash keys s given l k spent labels) spent.script)
          ∙ input_short hash keys s given short l k spent labels
      by_wallet (Some w) e = cc

  branch_short : (signatures : List (List ℕ)) (o : Option PathEnd) → list_all is_short signatures ≡ true
      → list_all is_short (items_of (branch_witness s strings signatures o)) ≡ true
  branch_short signatures None h = refl
  branch_short signatures (Some (at_position here contract)) h = refl
  branch_short signatures (Some (at_branch here i b)) h =
      let shown = strings_of strings (reveals_of (core b)) in
      let n = choices_at s here.position in
      ap (list_all is_short) (items_before (witness_stack signatures shown i n) here.output.script)
      ∙ stack_short signatures shown i n h (strings_short (reveals_of (core b)))

  path_short : (path : List PathStep) (l : Listed) (spends : List Spent) (signers : List (List Label))
      → KeysShort (input_wallet keys s.advert l.which) 0 (path_witnesses hash keys s given strings path l spends signers)
  path_short path l [] signers = tt
  path_short path l (spent ∷ spends) [] = tt
  path_short path l (spent ∷ spends) (labels ∷ signers) = (
    λ none.
        branch_short (input_signatures hash keys s given l 0 spent labels) (end_at hash keys s path)
        (input_short hash keys s given short l 0 spent labels),
    deposits_short l 1 spends signers,
  )

  pub keys_short : (l : Listed) (which : Which)
      → KeysShort (input_wallet keys s.advert l.which) 0 (witnesses hash keys s given strings l which)
  keys_short l names.Init = deposits_short l 0 l.pending.spends l.signers
  keys_short l (names.At path) = path_short path l l.pending.spends l.signers

  -- where all deposits are of keys, these are all inputs
  all_short : (wallet : ℕ → Option Wallet) → ((k : ℕ) → wallet k ≡ None) → (k : ℕ) (ws : List (List (List ℕ))) → KeysShort wallet k ws → AllShort ws
  all_short wallet none k [] h = tt
  all_short wallet none k (w ∷ ws) h = (h.0 (none k), all_short wallet none (k + 1) ws h.1)

  pub witnesses_short : AreKeyDeposits keys → (l : Listed) (which : Which) → AllShort (witnesses hash keys s given strings l which)
  witnesses_short of_keys l which =
      all_short (input_wallet keys s.advert l.which) (λ k. no_wallet keys of_keys s.advert l.which k) 0
      (witnesses hash keys s given strings l which) (keys_short l which)
