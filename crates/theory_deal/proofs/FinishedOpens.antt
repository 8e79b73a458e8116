-- Where a transaction is finished, every oracle that accepts the given signatures finds the scripts of all its inputs true.
use Rattle.std.proofs.Common.{◌≡◌, ℕ, zero, suc, ◌+◌, List, [], ◌∷◌, ◌++◌, length, map, Bool}
use Rattle.std.proofs.Common.{true, false, not, Option, Some, None, refl, sym, ap, ◌∙◌, subst, arith, cond}
use Rattle.std.specs.Prelude.{Decides, ◌&&◌, ◌||◌, ◌==◌, slice_get, is_some}
use Rattle.std.specs.List.{list_all, find}
use Rattle.std.specs.Option.{option_map, option_map_or, option_and_then}
use Rattle.std.specs.Str.{bytes_eq}
use Rattle.std.proofs.lemmas.Bool.{and_parts, and_from}
use Rattle.std.proofs.lemmas.Bool.Decides.{Decides-and, Decides-eqb}
use Rattle.std.proofs.lemmas.Slice.Eq.{bytes_eq-Decides}
use Rattle.std.proofs.lemmas.List.{append-nil}
use Rattle.spec_data.specs.Lists.{or_else, look_up}
use Rattle.spec_terms.specs.Term as term
use Rattle.spec_terms.specs.Term.{Pred, always, Contract, branches}
use Rattle.spec_terms.specs.Core.{core, reveals_of, test_of, puts_of}
use Rattle.spec_terms.specs.Advert.{Advert}
use Rattle.spec_terms.specs.Parties.{participants}
use Rattle.spec_terms.specs.Paths as paths
use Rattle.spec_terms.specs.Paths.{Subterm, as_branch, subterm_from, at, contract_under}
use Rattle.spec_terms.specs.Precondition.{Holding, persistent, volatile}
use Rattle.spec_terms.specs.Value.{holds}
use Rattle.spec_terms.specs.declared.path.PathStep.{PathStep}
use Rattle.spec_bitcoin.specs.declared.label.Label.{Label}
use Rattle.spec_bitcoin.specs.declared.label.Label.TheVariants as labels
use Rattle.spec_bitcoin.specs.Meaning.{script_meaning}
use Rattle.spec_bitcoin.specs.Spelling.{stripped}
use Rattle.spec_bitcoin.specs.Verdict.{script_of, items_of}
use Rattle.spec_compiler.specs.Scripts.{digest_of}
use Rattle.spec_compiler.specs.Witness.{witness_stack, witness_of}
use Rattle.spec_compiler.specs.Keyed.Keys.{Keys, key_in}
use Rattle.spec_compiler.specs.Keyed.Instance.{Instance, branch_path, branch_label, branch_keys, deposit_key}
use Rattle.spec_compiler.specs.declared.unsigned.Spent.{Spent}
use Rattle.spec_compiler.specs.declared.unsigned.Unsigned.{Unsigned}
use Rattle.spec_compiler.specs.Keyed.Transactions.{tx_of, Standing, party_script, deposit, holding_or_none, put_deposits, branch_unsigned}
use Rattle.spec_compiler.specs.Keyed.ByPath.{PathEnd, at_position, at_branch, end_at, as_unsigned}
use Rattle.spec_compiler.specs.Keyed.Statements.{are_valid, are_secrets, is_secret, is_short, secret_lengths, AreKeys, AreKeyDeposits, IsCompiled, Fills}
use Rattle.spec_compiler.specs.Keyed.Endorsements.{put_owner}
use Rattle.spec_text.specs.Words.{◌>>=◌}
use Rattle.spec_tool.specs.declared.which.Which.{Which}
use Rattle.spec_tool.specs.declared.which.Which.TheVariants as names
use Rattle.spec_tool.specs.Keyed.Listed.{Listed, deposit_signer, path_signers, branch_signers, path_listed, initial_listed, listed_at}
use Rattle.spec_deal.specs.declared.signed.Signed.{Signed}
use Rattle.spec_deal.specs.declared.finish.FinishRefusal.TheVariants as refusals
use Rattle.spec_deal.specs.Slots.{Slot, input_slot, input_slots, slots_from, slot_bytes, slot_key}
use Rattle.spec_deal.specs.Given.{is_for, has, signature_for}
use Rattle.spec_deal.specs.Setting.{no_key}
use Rattle.spec_deal.specs.Wallets.{puts_at, input_deposit, wallet_of, input_wallet, signer_key}
use Rattle.spec_deal.specs.declared.transaction.Wallet.{Wallet}
use Rattle.spec_deal.specs.declared.entry.Shown.{Shown}
use Rattle.spec_deal.specs.SecretFile.{string_for}
use Rattle.spec_deal.specs.Finished.{bytes_or_none, items_or_none, input_signatures, deposit_witness, deposit_witnesses}
use Rattle.spec_deal.specs.Finished.{strings_of, branch_witness, path_witnesses, witnesses}
use Rattle.spec_deal.specs.Finished.{unsigned_refusal, endorsement_refusal, signature_refusal, secret_refusal, predicate_holds, predicate_refusal, finish_refusal}
use Rattle.theory_calculus.proofs.Members.{all_in, found}
use Rattle.theory_calculus.proofs.Names.{bytes-true}
use Rattle.theory_script.proofs.Checked.{IsSound, AllSound, is_good}
use Rattle.theory_script.proofs.Keyed.Stands.{some_same, IfAgrees, agrees_at}
use Rattle.theory_script.proofs.Keyed.Witnesses.{witness_opens}
use Rattle.theory_script.proofs.Scripts.Deposits.{deposit_meaning}
use Rattle.theory_deal.specs.FirstOf.{IsFirst}
use Rattle.theory_deal.specs.Finished.{Oracle, accepts_one, IsApplied, are_short, do_fit, AreHandedIn, InputOpens, InputsOpen, AllInputsOpen}
use Rattle.theory_deal.specs.Finished.{AllOpen, InputsOpened, FinishedOpens}
use Rattle.theory_deal.proofs.Branches.{Found, branch_found}
use Rattle.theory_deal.proofs.Listed.{all_pass}
use Rattle.theory_deal.proofs.ReadDeals.{there_found}
use Rattle.theory_deal.proofs.FirstOf.{found_first}
use Rattle.theory_deal.proofs.OfKeys.{own_of_key, no_own, no_wallet}
use Rattle.theory_deal.proofs.Scripts.{name_at}

-- ---- lists

pub script_at_end : (xs : List (List ℕ)) (x : List ℕ) → script_of (xs ++ x ∷ []) ≡ x
script_at_end [] x = refl
script_at_end (y ∷ []) x = refl
script_at_end (y ∷ (z ∷ zs)) x = script_at_end (z ∷ zs) x

pub items_before : (xs : List (List ℕ)) (x : List ℕ) → items_of (xs ++ x ∷ []) ≡ xs
items_before [] x = refl
items_before (y ∷ []) x = refl
items_before (y ∷ (z ∷ zs)) x = ap (λ (w : List (List ℕ)). y ∷ w) (items_before (z ∷ zs) x)

all_left : {X : Type 0} (f : X → Bool) (xs ys : List X) → list_all f (xs ++ ys) ≡ true → list_all f xs ≡ true
all_left f [] ys h = refl
all_left f (x ∷ xs) ys h = let p = and_parts (f x) (list_all f (xs ++ ys)) h in and_from (f x) (list_all f xs) p.0 (all_left f xs ys p.1)

all_later : {X : Type 0} (f : X → Bool) (xs ys : List X) → list_all f (xs ++ ys) ≡ true → list_all f ys ≡ true
all_later f [] ys h = h
all_later f (x ∷ xs) ys h = all_later f xs ys (and_parts (f x) (list_all f (xs ++ ys)) h).1

twice : {X Y Z : Type 0} (f : Y → Z) (g : X → Y) (xs : List X) → map f (map g xs) ≡ map (λ x. f (g x)) xs
twice f g [] = refl
twice f g (x ∷ xs) = ap (λ (w : List _). f (g x) ∷ w) (twice f g xs)

pub first_none : {R : Type 0} (a b : Option R) → or_else a b ≡ None → a ≡ None
first_none None b h = refl
first_none (Some r) b h = cc

pub second_none : {R : Type 0} (a b : Option R) → or_else a b ≡ None → b ≡ None
second_none None b h = h
second_none (Some r) b h = cc

pub map_none : {X Y : Type 0} (f : X → Y) (o : Option X) → option_map f o ≡ None → o ≡ None
map_none f None h = refl
map_none f (Some x) h = cc

sound_at : (hashes : List (List ℕ × List ℕ)) (bs : List term.Guarded) (i : ℕ) (b : term.Guarded) → AllSound hashes bs
    → slice_get bs i ≡ Some b → IsSound hashes (core b)
sound_at hashes [] i b h e = cc
sound_at hashes (x ∷ bs) zero b h e = subst (λ (y : term.Guarded). IsSound hashes (core y)) (some_same e) h.0
sound_at hashes (x ∷ bs) (suc i) b h e = sound_at hashes bs i b h.1 e

-- ---- secrets

module _ (hash : List ℕ → List ℕ) (s : Instance) (strings : List Shown) (fit : do_fit hash s strings ≡ true) where
  -- a string that is there fits
  one_fits : (name : List ℕ) (o : Option Shown) → find (λ (x : Shown). bytes_eq x.name name) strings ≡ o
      → is_some (option_map (λ (x : Shown). x.bytes) o) ≡ true
      → is_secret hash (bytes_or_none (option_map (λ (x : Shown). x.bytes) o)) (digest_of s.hashes name) ≡ true
  one_fits name None e h = cc
  one_fits name (Some x) e h =
      let r = found (λ (y : Shown). bytes_eq y.name name) strings x e in
      subst (λ (n : List ℕ). is_secret hash x.bytes (digest_of s.hashes n) ≡ true) (bytes-true x.name name r.1)
      (all_in (λ (y : Shown). is_secret hash y.bytes (digest_of s.hashes y.name)) strings x fit r.0)

  all_fit : (required : List (List ℕ)) → list_all (λ name. is_some (string_for strings name)) required ≡ true
      → are_secrets hash (strings_of strings required) (map (digest_of s.hashes) required) ≡ true
  all_fit [] h = refl
  all_fit (name ∷ required) h =
      let p = and_parts (is_some (string_for strings name)) (list_all (λ n. is_some (string_for strings n)) required) h in
      and_from _ _ (one_fits name (find (λ (x : Shown). bytes_eq x.name name) strings) refl p.0) (all_fit required p.1)

-- ---- signatures

module _ (hash : List ℕ → List ℕ) (keys : Keys) (s : Instance) (given : List Signed) (short : are_short given ≡ true) where
  signature_short : (slot : Slot) → is_short (bytes_or_none (signature_for hash keys given slot)) ≡ true
  signature_short slot = by_found (find (is_for hash keys slot) given) refl
    where
      by_found : (o : Option Signed) → find (is_for hash keys slot) given ≡ o
          → is_short (bytes_or_none (option_map (λ (g : Signed). g.signature) o)) ≡ true
      by_found None e = refl
      by_found (Some g) e = all_in (λ (x : Signed). is_short x.signature) given g short (found (is_for hash keys slot) given g e).0

  pub input_short : (l : Listed) (k : ℕ) (spent : Spent) (signers : List Label)
      → list_all is_short (input_signatures hash keys s given l k spent signers) ≡ true
  input_short l k spent [] = refl
  input_short l k spent (label ∷ signers) =
      and_from _ _ (signature_short (input_slot keys s.advert l k spent label)) (input_short l k spent signers)

module _ (hash : List ℕ → List ℕ) (keys : Keys) (s : Instance) (given : List Signed) (oracle : Oracle) where
  -- an oracle accepts a signature by a key
  key_valid : (o : Option Wallet) (k : ℕ) (signature : List ℕ) (label : Label) → o ≡ None
      → (is_some o || oracle k signature (signer_key hash keys o label)) ≡ true → oracle k signature (key_in hash keys label) ≡ true
  key_valid o k signature label e h =
      subst (λ (w : Option Wallet). (is_some w || oracle k signature (signer_key hash keys w label)) ≡ true) e h

  input_valid : (l : Listed) (k : ℕ) (spent : Spent) (signers : List Label) → input_wallet keys s.advert l.which k ≡ None
      → list_all (accepts_one hash keys given oracle) (input_slots keys s.advert l k spent signers) ≡ true
      → are_valid (oracle k) (input_signatures hash keys s given l k spent signers) (map (key_in hash keys) signers) ≡ true
  input_valid l k spent [] none h = refl
  input_valid l k spent (label ∷ signers) none h =
      let p = and_parts _ (list_all (accepts_one hash keys given oracle) (input_slots keys s.advert l k spent signers)) h in
      and_from _ _ (key_valid (input_wallet keys s.advert l.which k) k _ label none p.0) (input_valid l k spent signers none p.1)

  -- ---- deposits

  -- it is a party's deposit, and the party signs it: by its key, where no wallet brings it
  pub record IsDeposit (l : Listed) (k : ℕ) (spent : Spent) (signers : List Label) : Type 0 where
    pub party : List ℕ
    pub signs : signers ≡ deposit_signer party
    pub script : input_wallet keys s.advert l.which k ≡ None → spent.script ≡ party_script hash keys party

  abbrev pub AreDeposits : Listed → ℕ → List Spent → List (List Label) → Type 0
  AreDeposits l k [] [] = Unit {0}
  AreDeposits l k [] (signers ∷ others) = ⊥
  AreDeposits l k (spent ∷ spends) [] = ⊥
  AreDeposits l k (spent ∷ spends) (signers ∷ others) = IsDeposit l k spent signers × AreDeposits l (k + 1) spends others

  one_deposit : AreKeys hash keys → are_short given ≡ true → (l : Listed) (k : ℕ) (spent : Spent) (signers : List Label)
      → IsDeposit l k spent signers → input_wallet keys s.advert l.which k ≡ None
      → list_all (accepts_one hash keys given oracle) (input_slots keys s.advert l k spent signers) ≡ true
      → script_meaning hash (oracle k) spent.script (items_of (input_signatures hash keys s given l k spent signers ++ spent.script ∷ []))
      ≡ true
  one_deposit are_keys short l k spent signers d none h =
      let key = deposit_key hash keys d.party in
      ap (script_meaning hash (oracle k) spent.script) (items_before (input_signatures hash keys s given l k spent signers) spent.script)
      ∙ subst
      (λ (labels : List Label).
      list_all (accepts_one hash keys given oracle) (input_slots keys s.advert l k spent labels) ≡ true
      → script_meaning hash (oracle k) spent.script (input_signatures hash keys s given l k spent labels) ≡ true)
      (sym d.signs)
      (λ a.
      ap (λ (bytes : List ℕ). script_meaning hash (oracle k) bytes (input_signatures hash keys s given l k spent
      (deposit_signer d.party))) (d.script none)
      ∙ deposit_meaning hash (oracle k) key (input_signatures hash keys s given l k spent (deposit_signer d.party))
      (are_keys (labels.Deposit d.party)) (input_short hash keys s given short l k spent (deposit_signer d.party))
      ∙ input_valid l k spent (deposit_signer d.party) none a)
      h

  -- it is of this input and by this key
  abbrev IsPlaced : List ℕ → ℕ → List ℕ → Signed → Type 0
  IsPlaced tx k key g = (g.tx ≡ tx) × ((g.input ≡ k) × (g.key ≡ key))

  -- what a wallet handed in for its deposit
  one_handed : (l : Listed) (k : ℕ) (spent : Spent) (party : List ℕ) (w : Wallet) → input_wallet keys s.advert l.which k ≡ Some w
      → has hash keys given (input_slot keys s.advert l k spent (labels.Deposit party)) ≡ true
      → AreHandedIn given (stripped (tx_of l.pending)) k (deposit_witness hash keys s given l k spent (deposit_signer party) (Some w))
  one_handed l k spent party w e there =
      by_found (find (is_for hash keys slot) given) refl (there_found (is_for hash keys slot) given there)
    where
      slot : Slot
      slot = input_slot keys s.advert l k spent (labels.Deposit party)

      by_none : slot_key hash keys slot ≡ no_key
      by_none = ap (λ (o : Option Wallet). signer_key hash keys o (labels.Deposit party)) e

      decides : (g : Signed) → Decides (is_for hash keys slot g) (IsPlaced (stripped (tx_of l.pending)) k (slot_key hash keys slot) g)
      decides g =
          Decides-and (bytes_eq g.tx (slot_bytes slot)) ((g.input == k) && bytes_eq g.key (slot_key hash keys slot))
          (bytes_eq-Decides g.tx (slot_bytes slot))
          (Decides-and (g.input == k) (bytes_eq g.key (slot_key hash keys slot)) (Decides-eqb g.input k)
          (bytes_eq-Decides g.key (slot_key hash keys slot)))

      by_found : (o : Option Signed) → find (is_for hash keys slot) given ≡ o → is_some o ≡ true
          → AreHandedIn given (stripped (tx_of l.pending)) k
          (deposit_witness hash keys s given l k spent (deposit_signer party) (Some w))
      by_found None f m = cc
      by_found (Some g) f m = (
        g,
        subst (λ (key : List ℕ). IsFirst (IsPlaced (stripped (tx_of l.pending)) k key) given g) by_none
            (found_first (is_for hash keys slot) (IsPlaced (stripped (tx_of l.pending)) k (slot_key hash keys slot)) decides given g f),
        sym (append-nil g.witness)
            ∙ ap (λ (o : Option Signed). items_or_none (option_map (λ (x : Signed). x.witness) o) ++ []) (sym f),
      )

  deposits_open : AreKeys hash keys → are_short given ≡ true → (l : Listed) (k : ℕ) (spends : List Spent) (signers : List (List Label))
      → AreDeposits l k spends signers
      → list_all (accepts_one hash keys given oracle) (slots_from keys s.advert l k spends signers) ≡ true
      → list_all (has hash keys given) (slots_from keys s.advert l k spends signers) ≡ true
      → InputsOpen hash oracle given (stripped (tx_of l.pending)) (input_wallet keys s.advert l.which) k spends
      (deposit_witnesses hash keys s given l k spends signers)
  deposits_open are_keys short l k [] [] d h there = tt
  deposits_open are_keys short l k [] (x ∷ xs) d h there = absurd d
  deposits_open are_keys short l k (spent ∷ spends) [] d h there = absurd d
  deposits_open are_keys short l k (spent ∷ spends) (x ∷ xs) d h there =
      let now = input_slots keys s.advert l k spent x in
      let later = slots_from keys s.advert l (k + 1) spends xs in (
        by_wallet (input_wallet keys s.advert l.which k) refl (all_left (accepts_one hash keys given oracle) now later h)
            (all_left (has hash keys given) now later there),
        deposits_open are_keys short l (k + 1) spends xs d.1 (all_later (accepts_one hash keys given oracle) now later h)
            (all_later (has hash keys given) now later there),
      )
    where
      by_wallet : (o : Option Wallet) → input_wallet keys s.advert l.which k ≡ o
          → list_all (accepts_one hash keys given oracle) (input_slots keys s.advert l k spent x) ≡ true
          → list_all (has hash keys given) (input_slots keys s.advert l k spent x) ≡ true
          → InputOpens hash oracle given (stripped (tx_of l.pending)) k o spent (deposit_witness hash keys s given l k spent x o)
      by_wallet None e a m = (
        script_at_end (input_signatures hash keys s given l k spent x) spent.script,
        one_deposit are_keys short l k spent x d.0 e a,
      )
      by_wallet (Some w) e a m =
          subst
          (λ (labels : List Label).
          list_all (has hash keys given) (input_slots keys s.advert l k spent labels) ≡ true
          → AreHandedIn given (stripped (tx_of l.pending)) k (deposit_witness hash keys s given l k spent labels (Some w)))
          (sym d.0.signs)
          (λ n.
          one_handed l k spent d.0.party w e
          (and_parts (has hash keys given (input_slot keys s.advert l k spent (labels.Deposit d.0.party))) true n).0)
          m

  -- these deposits are those that the inputs from number k on spend
  deposits_are : {X : Type 0} (name_of : X → List ℕ) (holding_of : X → Holding) (l : Listed) (k : ℕ) (xs : List X)
      → ((j : ℕ) (x : X) → slice_get xs j ≡ Some x → input_deposit s.advert l.which (k + j) ≡ Some (name_of x))
      → AreDeposits l k (map (λ x. deposit hash keys s (name_of x) (holding_of x)) xs) (map (λ x. deposit_signer (holding_of x).owner) xs)
  deposits_are name_of holding_of l k [] stands = tt
  deposits_are name_of holding_of l k (x ∷ xs) stands =
      let z : k ≡ k + 0 = omega arith in
      let here : input_deposit s.advert l.which k ≡ Some (name_of x) = ap (input_deposit s.advert l.which) z ∙ stands 0 x refl in (
        record {
          party = (holding_of x).owner;
          signs = refl;
          script = λ none.
              own_of_key hash keys s (name_of x) (holding_of x)
              (no_own keys (name_of x) (ap (λ (o : Option (List ℕ)). o >>= wallet_of keys) (sym here) ∙ none));
        },
        deposits_are name_of holding_of l (k + 1) xs
            (λ j y e. let n : k + 1 + j ≡ k + suc j = omega arith in ap (input_deposit s.advert l.which) n ∙ stands (suc j) y e),
      )

  pub persistent_are : (ds : List (List ℕ × Holding)) → ds ≡ persistent s.advert.pre
      → AreDeposits (initial_listed hash keys s) 0 (map (λ d. deposit hash keys s d.0 d.1) ds) (map (λ d. deposit_signer (d.1).owner) ds)
  persistent_are ds same =
      deposits_are (λ (d : List ℕ × Holding). d.0) (λ (d : List ℕ × Holding). d.1) (initial_listed hash keys s) 0 ds
      (λ j d e.
      let z : 0 + j ≡ j = omega arith in
      ap (input_deposit s.advert names.Init) z
      ∙ name_at (persistent s.advert.pre) j d (ap (λ (xs : List (List ℕ × Holding)). slice_get xs j) (sym same) ∙ e))

  pub puts_are : (path : List PathStep) (d : Unsigned) (b : term.Guarded) → at s.advert.root path ≡ Some b
      → AreDeposits (path_listed s path d) 1 (put_deposits hash keys s (puts_of (core b)))
      (map (λ name. deposit_signer (put_owner s.advert name)) (puts_of (core b)))
  puts_are path d b there =
      deposits_are (λ (name : List ℕ). name) (λ (name : List ℕ). holding_or_none (look_up name (volatile s.advert.pre)))
      (path_listed s path d) 1 (puts_of (core b))
      (λ j name e.
      let z : 1 + j ≡ suc j = omega arith in
      ap (input_deposit s.advert (names.At path)) z
      ∙ ap (λ (o : Option term.Guarded). slice_get (puts_at o) j) there
      ∙ e)

  -- ---- the output of a position

  module _ (strings : List Shown) (applied : IsApplied s) (are_keys : AreKeys hash keys) (short : are_short given ≡ true)
      (fit : do_fit hash s strings ≡ true) (path : List PathStep) (here : Standing) (i : ℕ) (b : term.Guarded)
      (ends : end_at hash keys s path ≡ Some (at_branch here i b)) (same : branch_path here.position i ≡ path)
      (stands : at s.advert.root path ≡ Some b)
      (shows : list_all (λ name. is_some (string_for strings name)) (reveals_of (core b)) ≡ true)
      (predicate : predicate_refusal strings (Some b) ≡ None) where
    place : Found hash keys s here i b
    place = branch_found hash keys s path here i b ends

    compiled : IsCompiled s here.position place.choice
    compiled = record { checked = applied.checked; committed = applied.committed; is_position = place.stands.branches }

    no_test : length (reveals_of (core b)) ≡ 0 → test_of (core b) ≡ always
    no_test =
        (sound_at s.hashes (branches place.choice) i b (is_good s here.position place.choice compiled).sound place.is_branch).no_test

    true_predicate : predicate_holds strings b ≡ true
    true_predicate =
        by_test (length (reveals_of (core b)) == 0) refl (predicate_holds strings b) refl predicate
      where
        by_test : (none : Bool) → (length (reveals_of (core b)) == 0) ≡ none → (true_one : Bool) → predicate_holds strings b ≡ true_one
            → cond (not none && not true_one) (Some refusals.Predicate) None ≡ None → predicate_holds strings b ≡ true
        by_test none e true is h = is
        by_test false e false is h = cc
        by_test true e false is h =
            let empty : length (reveals_of (core b)) ≡ 0 = grind (arith, e) in
            ap
            (holds (secret_lengths (reveals_of (core b)) (strings_of strings (reveals_of (core b)))))
            (no_test empty)

    abbrev signatures : Listed → List (List ℕ)
    signatures l = input_signatures hash keys s given l 0 here.output (map (branch_label s.contract path) (participants s.advert))

    branch_valid : (l : Listed) → input_wallet keys s.advert l.which 0 ≡ None
        → list_all (accepts_one hash keys given oracle)
        (input_slots keys s.advert l 0 here.output (map (branch_label s.contract path) (participants s.advert)))
        ≡ true
        → are_valid (oracle 0) (signatures l) (branch_keys hash keys s (branch_path here.position i)) ≡ true
    branch_valid l none h =
        ap
        (λ (q : List PathStep). are_valid (oracle 0) (signatures l) (branch_keys hash keys s q))
        same
        ∙ ap (are_valid (oracle 0) (signatures l)) (sym (twice (key_in hash keys) (branch_label s.contract path) (participants s.advert)))
        ∙ input_valid l 0 here.output (map (branch_label s.contract path) (participants s.advert)) none h

    fills : (l : Listed) → input_wallet keys s.advert l.which 0 ≡ None
        → list_all (accepts_one hash keys given oracle)
        (input_slots keys s.advert l 0 here.output (map (branch_label s.contract path) (participants s.advert)))
        ≡ true
        → Fills hash keys (oracle 0) s here.position place.choice i (signatures l) (strings_of strings (reveals_of (core b)))
    fills l none h = record {
      b = b;
      is_branch = place.is_branch;
      fits = all_fit hash s strings fit (reveals_of (core b)) shows;
      predicate = true_predicate;
      signed = branch_valid l none h;
      short = input_short hash keys s given short l 0 here.output (map (branch_label s.contract path) (participants s.advert));
    }

    -- the witness, by the number of the position's branches
    witness_is : (l : Listed) → branch_witness s strings (signatures l) (end_at hash keys s path)
        ≡ witness_of (signatures l) (strings_of strings (reveals_of (core b))) i (length (branches place.choice)) here.output.script
    witness_is l =
        ap (branch_witness s strings (signatures l)) ends
        ∙ ap
        (λ (o : Option Contract).
        witness_of (signatures l) (strings_of strings (reveals_of (core b))) i (option_map_or (λ c. length
        (branches c)) o 0) here.output.script)
        place.stands.branches

    first_script : (l : Listed) → script_of (branch_witness s strings (signatures l) (end_at hash keys s path)) ≡ here.output.script
    first_script l =
        ap script_of (witness_is l)
        ∙ script_at_end
        (witness_stack (signatures l) (strings_of strings (reveals_of (core b))) i (length (branches place.choice)))
        here.output.script

    first_opens : (l : Listed) → input_wallet keys s.advert l.which 0 ≡ None
        → list_all (accepts_one hash keys given oracle)
        (input_slots keys s.advert l 0 here.output (map (branch_label s.contract path) (participants s.advert)))
        ≡ true
        → script_meaning hash (oracle 0) here.output.script
        (items_of (branch_witness s strings (signatures l) (end_at hash keys s path)))
        ≡ true
    first_opens l none h =
        ap
        (script_meaning hash (oracle 0) here.output.script)
        (ap items_of (witness_is l)
        ∙ items_before
        (witness_stack (signatures l) (strings_of strings (reveals_of (core b))) i (length (branches place.choice)))
        here.output.script)
        ∙ ap
        (λ (bytes : List ℕ).
        script_meaning hash (oracle 0) bytes
        (witness_stack (signatures l) (strings_of strings (reveals_of (core b))) i (length (branches place.choice))))
        place.stands.script
        ∙ witness_opens hash keys (oracle 0) s here.position place.choice i (signatures l) (strings_of strings (reveals_of (core b)))
        are_keys compiled (fills l none h)

    abbrev made : Listed
    made = path_listed s path (branch_unsigned hash keys s here i b)

    -- all inputs, by their signers
    abbrev Opens : List (List Label) → Type 0
    Opens signers =
        list_all (accepts_one hash keys given oracle) (slots_from keys s.advert made 0 made.pending.spends signers) ≡ true
        → list_all (has hash keys given) (slots_from keys s.advert made 0 made.pending.spends signers) ≡ true
        → AllInputsOpen hash keys s given oracle made (path_witnesses hash keys s given strings path made made.pending.spends signers)

    by_signers : Opens (branch_signers s.contract s.advert path b)
    by_signers h there =
        let now = input_slots keys s.advert made 0 here.output (map (branch_label s.contract path) (participants s.advert)) in
        let puts = put_deposits hash keys s (puts_of (core b)) in
        let owners = map (λ name. deposit_signer (put_owner s.advert name)) (puts_of (core b)) in
        let later = slots_from keys s.advert made 1 puts owners in (
          (first_script made, first_opens made refl (all_left (accepts_one hash keys given oracle) now later h)),
          deposits_open are_keys short made 1 puts owners (puts_are path (branch_unsigned hash keys s here i b) b stands)
              (all_later (accepts_one hash keys given oracle) now later h) (all_later (has hash keys given) now later there),
        )

-- ---- all transactions

module _ (hash : List ℕ → List ℕ) (keys : Keys) (s : Instance) (given : List Signed) (strings : List Shown) (oracle : Oracle)
    (are_keys : AreKeys hash keys) (applied : IsApplied s) (short : are_short given ≡ true) (fit : do_fit hash s strings ≡ true) where
  -- a transaction that isn't refused opens
  abbrev Opened : Listed → Type 0
  Opened l =
      finish_refusal hash keys s given strings l ≡ None
      → list_all (accepts_one hash keys given oracle) (slots_from keys s.advert l 0 l.pending.spends l.signers) ≡ true
      → AllInputsOpen hash keys s given oracle l (witnesses hash keys s given strings l l.which)

  -- then no signature is missing
  all_there : (l : Listed) → finish_refusal hash keys s given strings l ≡ None
      → list_all (has hash keys given) (slots_from keys s.advert l 0 l.pending.spends l.signers) ≡ true
  all_there l h =
      all_pass (has hash keys given) (slots_from keys s.advert l 0 l.pending.spends l.signers)
      (map_none unsigned_refusal _ (first_none (signature_refusal hash keys s given l) _
      (second_none (endorsement_refusal hash keys s given l.which) _ h)))

  initial_opens : Opened (initial_listed hash keys s)
  initial_opens refusal h =
      let l = initial_listed hash keys s in
      deposits_open hash keys s given oracle are_keys short l 0 l.pending.spends l.signers
      (persistent_are hash keys s given oracle (persistent s.advert.pre) refl) h (all_there l refusal)

  path_opens : (path : List PathStep) (here : Standing) (i : ℕ) (b : term.Guarded)
      → end_at hash keys s path ≡ Some (at_branch here i b) → branch_path here.position i ≡ path
      → subterm_from (paths.position s.advert.root) path ≡ Some (paths.at_branch b)
      → Opened (path_listed s path (branch_unsigned hash keys s here i b))
  path_opens path here i b ends same term_there refusal h =
      let l = path_listed s path (branch_unsigned hash keys s here i b) in
      let branch_there : at s.advert.root path ≡ Some b = ap (option_and_then as_branch) term_there in
      let signers_there : path_signers s path ≡ branch_signers s.contract s.advert path b =
      ap (λ (o : Option term.Guarded). option_map_or (branch_signers s.contract s.advert path) o []) branch_there in
      let r = second_none (signature_refusal hash keys s given l) _ refusal in
      let secret : secret_refusal strings (Some b) ≡ None =
      ap (secret_refusal strings) (sym branch_there)
      ∙ first_none (secret_refusal strings (at s.advert.root path)) (predicate_refusal strings (at s.advert.root path)) r in
      let predicate : predicate_refusal strings (Some b) ≡ None =
      ap (predicate_refusal strings) (sym branch_there)
      ∙ second_none (secret_refusal strings (at s.advert.root path)) (predicate_refusal strings (at s.advert.root path)) r in
      let shows : list_all (λ name. is_some (string_for strings name)) (reveals_of (core b)) ≡ true =
      all_pass (λ name. is_some (string_for strings name)) (reveals_of (core b)) (map_none refusals.Secret _ secret) in
      subst
      (Opens hash keys s given oracle strings applied are_keys short fit path here i b ends same branch_there shows predicate)
      (sym signers_there)
      (by_signers hash keys s given oracle strings applied are_keys short fit path here i b ends same branch_there shows predicate)
      h (all_there l refusal)

  by_ends : (path : List PathStep) (o : Option PathEnd) (q : Option Subterm) → end_at hash keys s path ≡ o
      → subterm_from (paths.position s.advert.root) path ≡ q → IfAgrees hash keys s path o q → (l : Listed)
      → option_map (path_listed s path) (option_and_then (as_unsigned hash keys s) o) ≡ Some l → Opened l
  by_ends path None q ends is agrees l e = cc
  by_ends path (Some (at_position here choice)) q ends is agrees l e = cc
  by_ends path (Some (at_branch here i d)) None ends is agrees l e = absurd agrees
  by_ends path (Some (at_branch here i d)) (Some (paths.position c)) ends is agrees l e = absurd agrees
  by_ends path (Some (at_branch here i d)) (Some (paths.at_branch b)) ends is agrees l e =
      subst Opened (some_same e)
      (path_opens path here i d ends agrees.0 (is ∙ ap (λ (x : term.Guarded). Some (paths.at_branch x)) (sym agrees.1)))

  opened_at : (which : Which) (l : Listed) → listed_at hash keys s which ≡ Some l → Opened l
  opened_at names.Init l e = subst Opened (some_same e) initial_opens
  opened_at (names.At path) l e =
      by_ends path (end_at hash keys s path) (subterm_from (paths.position s.advert.root) path) refl refl (agrees_at hash keys s path) l e

pub inputs_opened : InputsOpened
inputs_opened hash keys s given strings which l oracle are_keys applied short fit e refusal h =
    opened_at hash keys s given strings oracle are_keys applied short fit which l e refusal h

-- ---- where all deposits are of keys

keys_open : (hash : List ℕ → List ℕ) (oracle : Oracle) (given : List Signed) (tx : List ℕ) (wallet : ℕ → Option Wallet)
    → ((k : ℕ) → wallet k ≡ None) → (k : ℕ) (spends : List Spent) (ws : List (List (List ℕ)))
    → InputsOpen hash oracle given tx wallet k spends ws → AllOpen hash oracle k spends ws
keys_open hash oracle given tx wallet none k [] [] h = tt
keys_open hash oracle given tx wallet none k [] (w ∷ ws) h = absurd h
keys_open hash oracle given tx wallet none k (spent ∷ spends) [] h = absurd h
keys_open hash oracle given tx wallet none k (spent ∷ spends) (w ∷ ws) h =
    let first = subst (λ (o : Option Wallet). InputOpens hash oracle given tx k o spent w) (none k) h.0 in
    (first.0, first.1, keys_open hash oracle given tx wallet none (k + 1) spends ws h.1)

pub all_open : (hash : List ℕ → List ℕ) (keys : Keys) (s : Instance) (given : List Signed) (oracle : Oracle) (l : Listed)
    (ws : List (List (List ℕ))) → AreKeyDeposits keys → AllInputsOpen hash keys s given oracle l ws → AllOpen hash oracle 0 l.pending.spends ws
all_open hash keys s given oracle l ws of_keys h =
    keys_open hash oracle given (stripped (tx_of l.pending)) (input_wallet keys s.advert l.which)
    (λ k. no_wallet keys of_keys s.advert l.which k) 0 l.pending.spends ws h

pub finished_opens : FinishedOpens
finished_opens hash keys s given strings which l oracle are_keys of_keys applied short fit e refusal h =
    all_open hash keys s given oracle l (witnesses hash keys s given strings l l.which) of_keys
    (inputs_opened hash keys s given strings which l oracle are_keys applied short fit e refusal h)
