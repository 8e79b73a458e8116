-- Whose signature an accepted transaction has, and which compiled transaction it then is.
use Rattle.std.proofs.Common.{◌≡◌, ℕ, List, [], ◌∷◌, ◌++◌, length, map, reverse, Bool, true, false, Some, refl, sym, ap, ◌∙◌, subst, arith, inl, inr}
use Rattle.std.specs.Prelude.{◌||◌, slice_get, if◌then◌else◌, option_map}
use Rattle.std.specs.List.{list_all, flat_map}
use Rattle.std.specs.Str.{bytes_eq}
use Rattle.std.proofs.lemmas.Bool.{and_parts, or_left, or_right, or_cases}
use Rattle.std.proofs.lemmas.List.Concat.{flat_map-cons}
use Rattle.spec_data.specs.Lists.{is_among}
use Rattle.spec_terms.specs.Term as term
use Rattle.spec_terms.specs.Term.{Contract, branches}
use Rattle.spec_terms.specs.Core.{lock}
use Rattle.spec_terms.specs.Precondition.{secrets, names_of}
use Rattle.spec_terms.specs.declared.path.PathStep.{PathStep}
use Rattle.spec_terms.specs.declared.path.PathStep.TheVariants.{Branch as To}
use Rattle.spec_bitcoin.specs.declared.tx.TxIn.{TxIn}
use Rattle.spec_bitcoin.specs.declared.tx.Tx.{Tx}
use Rattle.spec_bitcoin.specs.declared.label.Label.TheVariants as labels
use Rattle.spec_terms.specs.Faults.{IsWellFormed}
use Rattle.spec_terms.specs.Paths.{path_eq}
use Rattle.spec_bitcoin.specs.Spelling.{stripped, IsPlace}
use Rattle.spec_bitcoin.specs.Digests.{txid_strings, shared_strings, preimage, digest}
use Rattle.spec_bitcoin.specs.Keys.{key_of, label_text, has_signed, is_valid, pay_to}
use Rattle.spec_bitcoin.specs.Meaning.{script_meaning}
use Rattle.spec_bitcoin.specs.Verdict.{script_of, items_of}
use Rattle.spec_calculus.specs.Configuration.{Configuration}
use Rattle.spec_compiler.specs.Instance.{Instance, branch_path, branch_label, branch_keys, deposit_key, people, position_script}
use Rattle.spec_compiler.specs.declared.unsigned.Spent.{Spent}
use Rattle.spec_compiler.specs.declared.unsigned.Unsigned.{Unsigned}
use Rattle.spec_compiler.specs.Transactions.{Standing, input_of, tx_of, digest_of_spent, branch_unsigned, initial_unsigned, party_script}
use Rattle.spec_compiler.specs.Compilation.{path_transactions, scripts}
use Rattle.spec_compiler.specs.ByPath as by_path
use Rattle.spec_compiler.specs.ByPath.{position_at}
use Rattle.spec_compiler.specs.Hashed.{path_labels, spent_strings, unsigned_strings, compiled_strings}
use Rattle.spec_compiler.specs.Scripts.{digest_of}
use Rattle.spec_compiler.specs.Statements.{are_valid, Opens, has_size, IsCompiled}
use Rattle.spec_run.specs.Setup.{Setup, is_declared, people_of}
use Rattle.spec_run.specs.World.{ContractPosition, Output, World}
use Rattle.spec_run.specs.Owners.{paid_to}
use Rattle.spec_run.specs.Compiled.{compiled_instance}
use Rattle.spec_run.specs.Conditions.{HashesBytes}
use Rattle.theory_bitcoin.specs.Places.{AllPlaces}
use Rattle.theory_bitcoin.specs.Apart.{bare}
use Rattle.theory_calculus.proofs.Names.{bytes-true, bytes_refl}
use Rattle.theory_calculus.specs.Members.{Is_in}
use Rattle.theory_script.proofs.Scripts.Opened.{opens_exactly}
use Rattle.theory_script.proofs.Scripts.Deposits.{deposit_meaning}
use Rattle.theory_script.proofs.Listing.OutputScripts.{scripts_are_listed}
use Rattle.theory_script.proofs.Listing.Stands.{position_stands}
use Rattle.theory_script.specs.Listed.{at_path}
use Rattle.theory_world.specs.KeptApart.{NoCollision}
use Rattle.theory_world.proofs.Hashed.{among_left, among_right, among_head, among_tail}
use Rattle.theory_world.specs.Transactions.{HeardLists, IsNumbered, NoScripts}
use Rattle.theory_world.proofs.Ledger.Preimages.{SameSigned, heard_lists, double-apart, preimage-apart}
use Rattle.theory_world.proofs.Ledger.Bare.{signed-bare}
use Rattle.theory_world.proofs.Contracts.Positions.{covered, branch_here, transactions_strings, transactions_labels}
use Rattle.theory_world.proofs.Contracts.Standing.{stand_of_branch, position_named}
use Rattle.theory_world.proofs.Book.{valid_signed}
use Rattle.theory_world.proofs.Later.{compiled_is}
use Rattle.theory_world.proofs.Ledger.Accepting.{IsSpent}
use Rattle.theory_run.specs.KeptBook.{KeptBook, HeldFine, DepositCause, Gave, Needed, Started, HeardDigest, gave, needed, started}

-- ---- unsigned transactions

pub unsigned_no_scripts : (spends : List Spent) → NoScripts (map input_of spends)
unsigned_no_scripts [] = tt
unsigned_no_scripts (x ∷ spends) = (refl, unsigned_no_scripts spends)

input_place : (spends : List Spent) (x : Spent) → AllPlaces (map input_of spends) → Is_in x spends → IsPlace x.outpoint
input_place [] x h i = absurd i
input_place (y ∷ spends) x h (inl e) = subst (λ (z : Spent). IsPlace z.outpoint) (sym e) h.0
input_place (y ∷ spends) x h (inr i) = input_place spends x h.1 i

inner_strings : (hash : List ℕ → List ℕ) (tx : Tx) (spends : List Spent) (x : Spent) (t : List ℕ) → Is_in x spends
    → is_among t (spent_strings hash tx x) ≡ true → is_among t (flat_map (spent_strings hash tx) spends) ≡ true
inner_strings hash tx [] x t i h = absurd i
inner_strings hash tx (y ∷ spends) x t (inl e) h =
    subst (λ ts. is_among t ts ≡ true) (sym (flat_map-cons (spent_strings hash tx) y spends))
    (among_left t (spent_strings hash tx y) (flat_map (spent_strings hash tx) spends) (subst (λ z. is_among t (spent_strings hash tx z) ≡ true) e h))
inner_strings hash tx (y ∷ spends) x t (inr i) h =
    subst (λ ts. is_among t ts ≡ true) (sym (flat_map-cons (spent_strings hash tx) y spends))
    (among_right t (spent_strings hash tx y) (flat_map (spent_strings hash tx) spends) (inner_strings hash tx spends x t i h))

-- the strings of an unsigned transaction are among these
pub record HeardUnsigned (hash : List ℕ → List ℕ) (hs : List (List ℕ)) (d : Unsigned) : Type 0 where
  pub heard : (t : List ℕ) → is_among t (unsigned_strings hash d) ≡ true → is_among t hs ≡ true

module _ (hash : List ℕ → List ℕ) (hs : List (List ℕ)) (d : Unsigned) (h : HeardUnsigned hash hs d) where
  pub unsigned_lists : HeardLists hash hs (tx_of d)
  unsigned_lists = heard_lists hash hs (tx_of d)
      (λ t i. h.heard t (among_right t (txid_strings hash (tx_of d))
      (shared_strings hash (tx_of d) ++ flat_map (spent_strings hash (tx_of d)) d.spends)
      (among_left t (shared_strings hash (tx_of d)) (flat_map (spent_strings hash (tx_of d)) d.spends) i)))

  inner : (x : Spent) (t : List ℕ) → Is_in x d.spends → is_among t (spent_strings hash (tx_of d) x) ≡ true → is_among t hs ≡ true
  inner x t i k = h.heard t (among_right t (txid_strings hash (tx_of d))
      (shared_strings hash (tx_of d) ++ flat_map (spent_strings hash (tx_of d)) d.spends)
      (among_right t (shared_strings hash (tx_of d)) (flat_map (spent_strings hash (tx_of d)) d.spends) (inner_strings hash (tx_of d) d.spends x t i k)))

  pub unsigned_preimage : (x : Spent) → Is_in x d.spends → is_among (preimage hash (tx_of d) (input_of x) x.script x.value) hs ≡ true
  unsigned_preimage x i = let m = preimage hash (tx_of d) (input_of x) x.script x.value in inner x m i (among_head m (hash m ∷ []))

  pub unsigned_preimage_hash : (x : Spent) → Is_in x d.spends → is_among (hash (preimage hash (tx_of d) (input_of x) x.script x.value)) hs ≡ true
  unsigned_preimage_hash x i =
      let m = preimage hash (tx_of d) (input_of x) x.script x.value in
      inner x (hash m) i (among_tail (hash m) m (hash m ∷ []) (among_head (hash m) []))

  pub unsigned_bytes : is_among (stripped (tx_of d)) hs ≡ true
  unsigned_bytes = h.heard (stripped (tx_of d))
      (among_left (stripped (tx_of d)) (txid_strings hash (tx_of d))
      (shared_strings hash (tx_of d) ++ flat_map (spent_strings hash (tx_of d)) d.spends) (among_head (stripped (tx_of d)) (hash (stripped (tx_of d)) ∷ [])))

  pub unsigned_bytes_hash : is_among (hash (stripped (tx_of d))) hs ≡ true
  unsigned_bytes_hash = h.heard (hash (stripped (tx_of d)))
      (among_left (hash (stripped (tx_of d))) (txid_strings hash (tx_of d))
      (shared_strings hash (tx_of d) ++ flat_map (spent_strings hash (tx_of d)) d.spends)
      (among_tail (hash (stripped (tx_of d))) (stripped (tx_of d)) (hash (stripped (tx_of d)) ∷ []) (among_head (hash (stripped (tx_of d))) [])))

module _ (hash : List ℕ → List ℕ) (st : Instance)
    (hs : List (List ℕ)) (heard : (t : List ℕ) → is_among t (compiled_strings hash st) ≡ true → is_among t hs ≡ true) where
  abbrev all_labels : List (List ℕ)
  all_labels = flat_map (λ p. path_labels st p.0) (path_transactions hash st)

  abbrev all_scripts : List (List ℕ)
  all_scripts = map (λ p. p.1) (scripts hash st)

  abbrev all_unsigned : List (List ℕ)
  all_unsigned = flat_map (λ p. unsigned_strings hash p.1) (path_transactions hash st)

  pub initial_heard : HeardUnsigned hash hs (initial_unsigned hash st)
  initial_heard = record {
    heard = λ t i. heard t
        (among_right t all_labels (all_scripts ++ (unsigned_strings hash (initial_unsigned hash st) ++ all_unsigned))
        (among_right t all_scripts (unsigned_strings hash (initial_unsigned hash st) ++ all_unsigned)
        (among_left t (unsigned_strings hash (initial_unsigned hash st)) all_unsigned i)));
  }

  module _ (q : List PathStep) (here : Standing) (choice : Contract)
      (i : ℕ) (b : term.Guarded) (stands : position_at hash st q ≡ Some (here, choice)) (there : slice_get (branches choice) i ≡ Some b) where
    listed : Is_in (branch_path here.position i, branch_unsigned hash st here i b) (path_transactions hash st)
    listed = covered hash st (q ++ To i ∷ []) (by_path.at_branch here i b) (stand_of_branch hash st q here choice i b stands there) _
        (branch_here hash st here i (lock b) b)

    pub branch_heard : HeardUnsigned hash hs (branch_unsigned hash st here i b)
    branch_heard = record {
      heard = λ t k. heard t
          (among_right t all_labels (all_scripts ++ (unsigned_strings hash (initial_unsigned hash st) ++ all_unsigned))
          (among_right t all_scripts (unsigned_strings hash (initial_unsigned hash st) ++ all_unsigned)
          (among_right t (unsigned_strings hash (initial_unsigned hash st)) all_unsigned
          (transactions_strings hash st (path_transactions hash st) _ t listed k))));
    }

    pub label_heard : (a : List ℕ) → is_among a (people st) ≡ true → is_among (label_text (branch_label st.contract (q ++ To i ∷ []) a)) hs ≡ true
    label_heard a k =
        let e : branch_path here.position i ≡ q ++ To i ∷ [] = ap (λ p. p ++ To i ∷ []) (position_named hash st q here choice stands) in
        let t = label_text (branch_label st.contract (q ++ To i ∷ []) a) in
        let l : is_among t (path_labels st (branch_path here.position i)) ≡ true =
        subst (λ p. is_among t (path_labels st p) ≡ true)
        (sym e) (mapped (λ party. label_text (branch_label st.contract (q ++ To i ∷ []) party)) a (people st) k) in
        heard t (among_left t all_labels (all_scripts ++ (unsigned_strings hash (initial_unsigned hash st) ++ all_unsigned))
        (transactions_labels hash st (path_transactions hash st) _ t listed l))
      where
        mapped : (f : List ℕ → List ℕ) (x : List ℕ) (xs : List (List ℕ)) → is_among x xs ≡ true → is_among (f x) (map f xs) ≡ true
        mapped f x [] h = cc
        mapped f x (y ∷ xs) h = elim (or_cases (bytes_eq y x) (is_among x xs) h) [
          | inl u ↦ or_left _ _ (subst (λ z. bytes_eq (f y) (f z) ≡ true) (bytes-true y x u) (bytes_refl (f y)))
          | inr v ↦ or_right (bytes_eq (f y) (f x)) _ (mapped f x xs v)
        ]

  -- the script of a position
  pub script_heard : (q : List PathStep) (here : Standing) (choice : Contract) → position_at hash st q ≡ Some (here, choice)
      → is_among here.output.script hs ≡ true
  script_heard q here choice stands =
      let l = scripts_are_listed hash st q ∙ ap (option_map (λ p. p.0.output.script)) stands in
      heard here.output.script (among_right here.output.script all_labels
      (all_scripts ++ (unsigned_strings hash (initial_unsigned hash st) ++ all_unsigned))
      (among_left here.output.script all_scripts (unsigned_strings hash (initial_unsigned hash st) ++ all_unsigned)
      (found_script q here.output.script (scripts hash st) l)))
    where
      found_script : (q : List PathStep) (x : List ℕ) (es : List (List PathStep × List ℕ)) → at_path q es ≡ Some x → is_among x (map (λ p. p.1) es) ≡ true
      found_script q x [] h = cc
      found_script q x (e ∷ es) h = by_test (path_eq e.0 q) h (found_script q x es)
        where
          by_test : (t : Bool) → (if t then Some (e.1) else at_path q es) ≡ Some x
              → (at_path q es ≡ Some x → is_among x (map (λ p. p.1) es) ≡ true) → (bytes_eq e.1 x || is_among x (map (λ p. p.1) es)) ≡ true
          by_test true u ih = let z : e.1 ≡ x = cc in or_left _ _ (subst (λ y. bytes_eq e.1 y ≡ true) z (bytes_refl e.1))
          by_test false u ih = or_right (bytes_eq e.1 x) _ (ih u)

-- ---- unsigned transactions

-- every compiled transaction has numbers within their widths
pub record TransactionsFit (s : Setup) (w : World) : Type 0 where
  pub initial : (k : ℕ) (st : Instance) → compiled_instance s w k ≡ Some st → IsNumbered (tx_of (initial_unsigned s.hash st))
  pub branch : (k : ℕ) (st : Instance) (q : List PathStep) (here : Standing) (choice : Contract) (i : ℕ) (b : term.Guarded)
      → compiled_instance s w k ≡ Some st → position_at s.hash st q ≡ Some (here, choice) → slice_get (branches choice) i ≡ Some b
      → IsNumbered (tx_of (branch_unsigned s.hash st here i b))

-- digests of a contract's secrets have 32 bytes, and the contract has passed the check
pub record Checked (s : Setup) (w : World) : Type 0 where
  pub checked : (k : ℕ) (st : Instance) → compiled_instance s w k ≡ Some st → IsWellFormed st.advert
  pub committed : (k : ℕ) (st : Instance) → compiled_instance s w k ≡ Some st
      → list_all (λ name. has_size 32 (digest_of st.hashes name)) (names_of (secrets st.advert.pre)) ≡ true

-- ---- an accepted transaction

-- one of the signatures is valid for each key
pub each_valid : (valid : List ℕ → List ℕ → Bool) (sigs keys : List (List ℕ)) (key : List ℕ) → are_valid valid sigs keys ≡ true
    → is_among key keys ≡ true → (sig : List ℕ) × (valid sig key ≡ true)
each_valid valid [] [] key h i = cc
each_valid valid [] (k ∷ keys) key h i = cc
each_valid valid (x ∷ sigs) [] key h i = cc
each_valid valid (x ∷ sigs) (k ∷ keys) key h i =
    let p = and_parts (valid x k) (are_valid valid sigs keys) h in
    elim (or_cases (bytes_eq k key) (is_among key keys) i) [
      | inl q ↦ (x, subst (λ y. valid x y ≡ true) (bytes-true k key q) p.0)
      | inr q ↦ each_valid valid sigs keys key p.1 q
    ]

module _ (s : Setup) (size : HashesBytes s.hash) (g : Configuration) (w : World) (kept : KeptBook s g w) (fit : TransactionsFit s w)
    (check : Checked s w) (hs : List (List ℕ)) (clear : NoCollision s.hash hs) (sub : (t : List ℕ) → is_among t w.hashed ≡ true → is_among t hs ≡ true)
    (tx : Tx) (fits : IsNumbered tx) (scripts_none : NoScripts tx.inputs) (lists : HeardLists s.hash hs tx) where
  -- equal digests come from transactions that are the same but for witnesses
  same_digest : (d : Unsigned) (x : Spent) (i : TxIn) (script : List ℕ) (v : ℕ) → IsNumbered (tx_of d) → HeardUnsigned s.hash hs d
      → Is_in x d.spends → IsPlace i.prev → HeardDigest s hs tx i script v
      → digest s.hash tx i script v ≡ digest_of_spent s.hash (tx_of d) x → bare tx ≡ bare (tx_of d)
  same_digest d x i script v df dh xi pi h e =
      let m = double-apart s.hash hs clear (preimage s.hash tx i script v) (preimage s.hash (tx_of d) (input_of x) x.script x.value)
      h.first h.second (unsigned_preimage s.hash hs d dh x xi) (unsigned_preimage_hash s.hash hs d dh x xi) e in
      let q = preimage-apart s.hash size hs clear tx (tx_of d) fits df lists
      (unsigned_lists s.hash hs d dh) i (input_of x) pi (input_place d.spends x df.places xi) script x.script v x.value m in
      signed-bare tx (tx_of d) q scripts_none (unsigned_no_scripts d.spends)

  heard_at : (k : ℕ) (st : Instance) → compiled_instance s w k ≡ Some st → (t : List ℕ) → is_among t (compiled_strings s.hash st) ≡ true → is_among t hs ≡ true
  heard_at k st c t i = sub t (kept.heard k st c t i)

  -- which transaction an honest party's signature of a deposit is of
  pub record IsPut (a : List ℕ) : Type 0 where
    pub contract : ℕ
    pub instance : Instance
    pub compiled : compiled_instance s w contract ≡ Some instance
    pub position : List PathStep
    pub here : Standing
    pub choice : Contract
    pub stands : position_at s.hash instance position ≡ Some (here, choice)
    pub index : ℕ
    pub branch : term.Guarded
    pub there : slice_get (branches choice) index ≡ Some branch
    pub is : bare tx ≡ bare (tx_of (branch_unsigned s.hash instance here index branch))

  pub record IsStart (a : List ℕ) : Type 0 where
    pub contract : ℕ
    pub instance : Instance
    pub compiled : compiled_instance s w contract ≡ Some instance
    pub is : bare tx ≡ bare (tx_of (initial_unsigned s.hash instance))
    pub cause : (d : List ℕ) × Started s g w a d

  -- a gift with the same digest spends the same places
  pub same_gift : (a d : List ℕ) (i : TxIn) (script : List ℕ) (v : ℕ) → IsPlace i.prev → HeardDigest s hs tx i script v → (h : Gave s w a d)
      → digest s.hash tx i script v ≡ d → SameSigned tx h.tx
  same_gift a d i script v pi k h e =
      let m = double-apart s.hash hs clear (preimage s.hash tx i script v)
      (preimage s.hash h.tx h.input (party_script s.hash a) h.value) k.first k.second (sub _ h.heard.first) (sub _ h.heard.second) (e ∙ h.is) in
      let l : HeardLists s.hash hs h.tx = record {
        places = sub _ h.lists.places;
        places_hash = sub _ h.lists.places_hash;
        sequences = sub _ h.lists.sequences;
        sequences_hash = sub _ h.lists.sequences_hash;
        outputs = sub _ h.lists.outputs;
        outputs_hash = sub _ h.lists.outputs_hash;
      } in
      preimage-apart s.hash size hs clear tx h.tx fits h.fits lists l i h.input pi h.prev script (party_script s.hash a) v h.value m

  -- one with the digest of a put is its branch's, and one with that of a start is the initial transaction
  pub same_put : (a d : List ℕ) (i : TxIn) (script : List ℕ) (v : ℕ) → IsPlace i.prev → HeardDigest s hs tx i script v
      → digest s.hash tx i script v ≡ d → (h : Needed s w a d) → bare tx ≡ bare (tx_of (branch_unsigned s.hash h.instance h.here h.index h.branch))
  same_put a d i script v pi k e h =
      let dh = branch_heard s.hash h.instance hs (heard_at h.contract h.instance h.compiled) h.position h.here h.choice h.index h.branch h.stands h.there in
      same_digest (branch_unsigned s.hash h.instance h.here h.index h.branch) h.spent i script v
      (fit.branch h.contract h.instance h.position h.here h.choice h.index h.branch h.compiled h.stands h.there) dh (inr h.put) pi k (e ∙ h.is)

  pub same_start : (a d : List ℕ) (i : TxIn) (script : List ℕ) (v : ℕ) → IsPlace i.prev → HeardDigest s hs tx i script v
      → digest s.hash tx i script v ≡ d → (h : Started s g w a d) → bare tx ≡ bare (tx_of (initial_unsigned s.hash h.instance))
  same_start a d i script v pi k e h =
      same_digest (initial_unsigned s.hash h.instance) h.spent i script v (fit.initial h.contract h.instance h.compiled)
      (initial_heard s.hash h.instance hs (heard_at h.contract h.instance h.compiled)) h.persists pi k (e ∙ h.is)

  -- what a cause says of a transaction with that digest
  pub data Cause (a : List ℕ) : Type 0 where
    gift_cause : (d : List ℕ) (h : Gave s w a d) → SameSigned tx h.tx → Cause a
    put_cause : IsPut a → Cause a
    start_cause : IsStart a → Cause a

  pub cause_of : (a d : List ℕ) (i : TxIn) (script : List ℕ) (v : ℕ) → IsPlace i.prev → HeardDigest s hs tx i script v
      → digest s.hash tx i script v ≡ d → DepositCause s g w a d → Cause a
  cause_of a d i script v pi k e (gave h) = gift_cause d h (same_gift a d i script v pi k h e)
  cause_of a d i script v pi k e (needed h) = put_cause (record {
    contract = h.contract;
    instance = h.instance;
    compiled = h.compiled;
    position = h.position;
    here = h.here;
    choice = h.choice;
    stands = h.stands;
    index = h.index;
    branch = h.branch;
    there = h.there;
    is = same_put a d i script v pi k e h;
  })
  cause_of a d i script v pi k e (started h) =
      start_cause (record { contract = h.contract; instance = h.instance; compiled = h.compiled; is = same_start a d i script v pi k e h; cause = (d, h) })

  -- the pair of a party's deposit that is spent stands in the book
  pub deposit_signed : (n : ℕ) (i : TxIn) (sp : IsSpent s w tx n i) (h : is_among (script_of i.witness) hs ≡ true) (a : List ℕ)
      → is_declared s a ≡ true → sp.output.script ≡ paid_to s a
      → (script_of i.witness ≡ party_script s.hash a)
      × (has_signed w.book (deposit_key s.hash a) (digest s.hash tx i (party_script s.hash a) sp.output.value) ≡ true)
  deposit_signed n i sp h a decl e =
      let u : pay_to (s.hash (script_of i.witness)) ≡ paid_to s a = sym sp.pays ∙ e in
      let v : s.hash (script_of i.witness) ≡ s.hash (party_script s.hash a) = cc in
      let x : script_of i.witness ≡ party_script s.hash a = clear.one (script_of i.witness) (party_script s.hash a) h (sub _ (kept.programs a decl)) v in
      let valid = is_valid w.book (digest s.hash tx i (party_script s.hash a) sp.output.value) in
      let runs : script_meaning s.hash valid (party_script s.hash a) (items_of i.witness) ≡ true =
      subst (λ y. script_meaning s.hash (is_valid w.book (digest s.hash tx i y sp.output.value)) y (items_of i.witness) ≡ true) x sp.runs in
      let len : length (deposit_key s.hash a) ≡ 33 = (let l = size.size (label_text (labels.Deposit a)) in omega (arith, l)) in
      let m = sym (deposit_meaning s.hash valid (deposit_key s.hash a) (items_of i.witness) len sp.short) ∙ runs in
      let r = each_valid valid (reverse (items_of i.witness)) (deposit_key s.hash a ∷ []) (deposit_key s.hash a) m (among_head (deposit_key s.hash a) []) in
      (x, valid_signed w.book (digest s.hash tx i (party_script s.hash a) sp.output.value) r.0 (deposit_key s.hash a) r.1)

  -- ---- a contract output

  -- the transaction is that of a branch, which its participants have signed
  pub record IsTaken (i : TxIn) (o : Output) (h : ContractPosition) (hf : HeldFine s w o h) : Type 0 where
    pub opened : Opens s.hash (is_valid w.book (digest s.hash tx i hf.here.output.script o.value)) hf.instance h.position hf.choice
        (reverse (items_of i.witness))
    pub script : script_of i.witness ≡ hf.here.output.script
    pub signed : (a : List ℕ) → is_among a (people hf.instance) ≡ true
        → has_signed w.book (key_of s.hash (branch_label h.contract (h.position ++ To opened.i ∷ []) a))
        (digest s.hash tx i hf.here.output.script o.value) ≡ true
    pub is : bare tx ≡ bare (tx_of (branch_unsigned s.hash hf.instance hf.here opened.i opened.b))

  pub taken : (n : ℕ) (i : TxIn) (sp : IsSpent s w tx n i) (hi : is_among (script_of i.witness) hs ≡ true)
      (hd : HeardDigest s hs tx i (script_of i.witness) sp.output.value) (h : ContractPosition) (hf : HeldFine s w sp.output h)
      → IsPlace i.prev → IsTaken i sp.output h hf
  taken n i sp hi hd h hf pi =
      let st = hf.instance in
      let here = hf.here in
      let u : pay_to (s.hash (script_of i.witness)) ≡ pay_to (s.hash here.output.script) = sym sp.pays ∙ hf.script in
      let v : s.hash (script_of i.witness) ≡ s.hash here.output.script = cc in
      let x : script_of i.witness ≡ here.output.script =
      clear.one (script_of i.witness) here.output.script hi
      (script_heard s.hash st hs (heard_at h.contract st hf.compiled) h.position here hf.choice hf.stands) v in
      let valid = is_valid w.book (digest s.hash tx i here.output.script sp.output.value) in
      let stands = position_stands s.hash st h.position here hf.choice hf.stands in
      let runs : script_meaning s.hash valid (position_script s.hash st h.position hf.choice) (items_of i.witness) ≡ true =
      subst (λ y. script_meaning s.hash valid y (items_of i.witness) ≡ true) stands.script
      (subst (λ y. script_meaning s.hash (is_valid w.book (digest s.hash tx i y sp.output.value)) y (items_of i.witness) ≡ true) x sp.runs) in
      let comp : IsCompiled st h.position hf.choice = record {
        checked = check.checked h.contract st hf.compiled;
        committed = check.committed h.contract st hf.compiled;
        is_position = stands.branches;
      } in
      let op = (opens_exactly s.hash st h.position valid hf.choice (items_of i.witness) size.size comp sp.short).true_opens runs in
      let c = compiled_is s w h.contract st hf.compiled in
      let ck : st.contract ≡ h.contract = ap (λ (y : Instance). y.contract) c.is in
      let sg : (a : List ℕ) → is_among a (people st) ≡ true → has_signed w.book
      (key_of s.hash (branch_label h.contract (h.position ++ To op.i ∷ []) a)) (digest s.hash tx i here.output.script sp.output.value) ≡ true =
      λ a k.
      let ky = key_of s.hash (branch_label st.contract (h.position ++ To op.i ∷ []) a) in
      let r = each_valid valid op.signatures (branch_keys s.hash st (branch_path h.position op.i)) ky op.signed
      (mapped_key (λ party. key_of s.hash (branch_label st.contract (branch_path h.position op.i) party)) a (people st) k) in
      subst (λ m. has_signed w.book (key_of s.hash (branch_label m (h.position ++ To op.i ∷ []) a)) (digest s.hash tx i
      here.output.script sp.output.value) ≡ true) ck (valid_signed w.book (digest s.hash tx i here.output.script sp.output.value) r.0 ky r.1) in
      let adv = kept.adverts h.contract c.advertised in
      let fair : is_among adv.fair.0 (people st) ≡ true =
      subst (λ p. is_among adv.fair.0 p ≡ true) (ap people_of c.there ∙ ap (λ (y : Instance). people y) (sym c.is)) adv.fair.1 in
      let bc = kept.branch_pairs h.contract st h.position here hf.choice op.i op.b adv.fair.0
      (digest s.hash tx i here.output.script sp.output.value) hf.compiled hf.stands op.is_branch fair adv.fair.2 (sg adv.fair.0 fair) in
      let dh = branch_heard s.hash st hs (heard_at h.contract st hf.compiled) h.position here hf.choice op.i op.b hf.stands op.is_branch in
      let hd' : HeardDigest s hs tx i here.output.script sp.output.value = subst (λ y. HeardDigest s hs tx i y sp.output.value) x hd in
      record {
        opened = op;
        script = x;
        signed = sg;
        is = same_digest (branch_unsigned s.hash st here op.i op.b) here.output i here.output.script sp.output.value
            (fit.branch h.contract st h.position here hf.choice op.i op.b hf.compiled hf.stands op.is_branch) dh (inl refl) pi hd' bc.is;
      }
    where
      mapped_key : (f : List ℕ → List ℕ) (x : List ℕ) (xs : List (List ℕ)) → is_among x xs ≡ true → is_among (f x) (map f xs) ≡ true
      mapped_key f x [] h = cc
      mapped_key f x (y ∷ xs) h = elim (or_cases (bytes_eq y x) (is_among x xs) h) [
        | inl u ↦ or_left _ _ (subst (λ z. bytes_eq (f y) (f z) ≡ true) (bytes-true y x u) (bytes_refl (f y)))
        | inr v ↦ or_right (bytes_eq (f y) (f x)) _ (mapped_key f x xs v)
      ]
