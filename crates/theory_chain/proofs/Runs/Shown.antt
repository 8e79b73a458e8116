-- What a chain's transactions show: whoever opens a branch shows all that it reveals, and the lengths are those of its predicate.
use Rattle.std.proofs.Common.{◌≡◌, ℕ, ◌-◌, List, [], ◌∷◌, ◌++◌, length, map, reverse, Bool, true, false, Option, Some, None}
use Rattle.std.proofs.Common.{refl, sym, ap, subst, ◌∙◌, inl, inr, cond, arith}
use Rattle.std.specs.Prelude.{nat_lt, nat_le}
use Rattle.std.specs.Option.{option_map_or}
use Rattle.std.proofs.lemmas.Bool.Decides.{nat_tests}
use Rattle.std.proofs.lemmas.List.{reverse-append}
use Rattle.std.specs.Prelude.{◌⊎◌, ◌||◌, not, is_some, slice_get, drop}
use Rattle.std.specs.List.{list_any, list_all, flat_map}
use Rattle.std.specs.Str.{bytes_eq}
use Rattle.std.proofs.lemmas.Bool.{and_parts, and_from, not-true}
use Rattle.spec_data.specs.Lists.{look_up, is_among, are_different, or_else}
use Rattle.spec_data.specs.Ranges.{least_secret_bytes, most_item_bytes}
use Rattle.spec_terms.specs.Term as term
use Rattle.spec_terms.specs.Term.{Contract, branches}
use Rattle.spec_terms.specs.Core.{core, reveals_of, test_of}
use Rattle.spec_terms.specs.Precondition.{secrets, names_of}
use Rattle.spec_terms.specs.Value.{holds}
use Rattle.spec_terms.specs.declared.path.PathStep.{PathStep}
use Rattle.spec_bitcoin.specs.declared.tx.Tx.{Tx}
use Rattle.spec_bitcoin.specs.declared.tx.TxIn.{TxIn}
use Rattle.spec_bitcoin.specs.Spelling.{is_filled}
use Rattle.spec_bitcoin.specs.Verdict.{script_of, items_of, is_long}
use Rattle.spec_compiler.specs.Scripts.{digest_of}
use Rattle.spec_compiler.specs.Witness.{chosen, chosen_by}
use Rattle.spec_compiler.specs.Keyed.Instance.{Instance, position_script}
use Rattle.spec_compiler.specs.Keyed.Keys.{Keys}
use Rattle.spec_compiler.specs.Keyed.Statements.{IsCompiled, is_short, is_secret, are_secrets, secret_lengths}
use Rattle.spec_run.specs.Ledger.{first_witness}
use Rattle.spec_deal.specs.Finished.{bytes_or_none, choices_at}
use Rattle.spec_deal.specs.SecretFile.{has_length}
use Rattle.theory_calculus.specs.Members.{Is_in}
use Rattle.theory_calculus.proofs.Members.{in_left, in_right, in_append, filter_has, some_there}
use Rattle.theory_calculus.proofs.Names.{bytes-true, looked_in, in_named, named_looked, different_names}
use Rattle.theory_script.proofs.Keyed.Chosen.{opened_is_chosen}
use Rattle.theory_script.proofs.Keyed.Opened.{opens_exactly}
use Rattle.theory_script.proofs.Keyed.Stands.{some_same}
use Rattle.theory_world.specs.KeptApart.{NoCollision}
use Rattle.theory_world.proofs.Hashed.{find_any}
use Rattle.theory_run.proofs.Accepted.Tested.{secrets_different}
use Rattle.spec_chain.specs.Following.{State, items_in, is_string_of, string_shown, is_newly_shown, newly_shown, strings_shown}
use Rattle.spec_chain.specs.Refusals.{takes_all, opens}
use Rattle.theory_chain.proofs.Deals.Whole.{Whole}
use Rattle.theory_chain.proofs.Deals.Outputs.{any_there}
use Rattle.theory_chain.proofs.Runs.Kept.{IsShown}

-- ---- witnesses

-- a witness that isn't empty is its items and its script
parted : (w : List (List ℕ)) → is_filled w ≡ true → w ≡ items_of w ++ script_of w ∷ []
parted [] h = cc
parted (x ∷ []) h = refl
parted (x ∷ (y ∷ rest)) h = ap (λ (zs : List (List ℕ)). x ∷ zs) (parted (y ∷ rest) refl)

-- the stack that it is, from its top
pub stack_of : (w : List (List ℕ)) → is_filled w ≡ true → drop 1 (reverse w) ≡ reverse (items_of w)
stack_of w h =
    ap (λ (v : List (List ℕ)). drop 1 (reverse v)) (parted w h)
    ∙ ap (drop 1) (reverse-append (items_of w) (script_of w ∷ []))

in_items : (w : List (List ℕ)) (x : List ℕ) → Is_in x (items_of w) → Is_in x w
in_items [] x h = absurd h
in_items (y ∷ []) x h = absurd h
in_items (y ∷ (z ∷ rest)) x (inl e) = inl e
in_items (y ∷ (z ∷ rest)) x (inr h) = inr (in_items (z ∷ rest) x h)

in_reverse : (x : List ℕ) (xs : List (List ℕ)) → Is_in x (reverse xs) → Is_in x xs
in_reverse x [] h = h
in_reverse x (y ∷ xs) h = by_place (in_append x (reverse xs) (y ∷ []) (subst (Is_in x) (reverse-append (y ∷ []) xs) h)) (in_reverse x xs)
  where
    by_place : Is_in x (reverse xs) ⊎ Is_in x (y ∷ []) → (Is_in x (reverse xs) → Is_in x xs) → Is_in x (y ∷ xs)
    by_place (inl i) later = inr (later i)
    by_place (inr (inl e)) later = inl e
    by_place (inr (inr i)) later = absurd i

in_first : (is : List TxIn) (x : List ℕ) → Is_in x (first_witness is) → Is_in x (flat_map (λ (i : TxIn). i.witness) is)
in_first [] x h = absurd h
in_first (i ∷ is) x h = in_left x i.witness (flat_map (λ (j : TxIn). j.witness) is) h

all_short : (items : List (List ℕ)) → list_any is_long items ≡ false → list_all is_short items ≡ true
all_short [] h = refl
all_short (x ∷ items) h =
    let r = neither (is_long x) (list_any is_long items) h in
    and_from _ _ (short (length x) r.0) (all_short items r.1)
  where
    neither : (a b : Bool) → (a || b) ≡ false → (a ≡ false) × (b ≡ false)
    neither true b k = cc
    neither false b k = (refl, k)

    short : (n : ℕ) → nat_lt most_item_bytes n ≡ false → nat_le n most_item_bytes ≡ true
    short n k = grind (arith, nat_tests)

-- ---- what opens a position

module _ (hash : List ℕ → List ℕ) (keys : Keys) (s : Instance) (whole : Whole hash keys s) where
  -- a string of each secret that a branch reveals is an item of the witness, and its predicate is true of their lengths
  pub record ShowsAll (b : term.Guarded) (tx : Tx) : Type 0 where
    pub strings : List (List ℕ)
    pub fit : are_secrets hash strings (map (digest_of s.hashes) (reveals_of (core b))) ≡ true
    pub items : (t : List ℕ) → Is_in t strings → Is_in t (items_in tx)
    pub predicate : holds (secret_lengths (reveals_of (core b)) strings) (test_of (core b)) ≡ true

  pub shows_all : (q : List PathStep) (choice : Contract) (i : ℕ) (b : term.Guarded) (tx : Tx) → IsCompiled s q choice → slice_get (branches choice) i ≡ Some b
      → opens hash (position_script hash keys s q choice) (first_witness tx.inputs) ≡ true
      → chosen_by (choices_at s q) (first_witness tx.inputs) ≡ i → ShowsAll b tx
  shows_all q choice i b tx comp there opened selects =
      let w = first_witness tx.inputs in
      let a = and_parts (is_filled w) _ opened in
      let c = and_parts (bytes_eq (script_of w) (position_script hash keys s q choice)) _ a.1 in
      let d = and_parts (not (list_any is_long (items_of w))) _ c.1 in
      let op = (opens_exactly hash keys s q takes_all choice (items_of w) whole.are_keys comp (all_short (items_of w) (not-true _ d.0))).true_opens d.1 in
      let count : choices_at s q ≡ length (branches choice) =
      ap (λ (o : Option Contract). option_map_or (λ (x : Contract). length (branches x)) o 0) comp.is_position in
      let same : op.i ≡ i =
      sym (opened_is_chosen hash keys takes_all s q choice (reverse (items_of w)) op)
      ∙ (λ j. chosen (sym count j) (sym (stack_of w a.0) j)) ∙ selects in
      let branch : op.b ≡ b = some_same (sym op.is_branch ∙ ap (slice_get (branches choice)) same ∙ there) in
      record {
        strings = op.strings;
        fit = subst (λ (x : term.Guarded). are_secrets hash op.strings (map (digest_of s.hashes) (reveals_of (core x))) ≡ true) branch op.fits;
        items = λ t h.
            in_first tx.inputs t (in_items w t (in_reverse t (items_of w)
            (subst (Is_in t) (sym op.is_stack) (in_right t op.selectors (op.strings ++ op.signatures) (in_left t op.strings op.signatures h)))));
        predicate = subst (λ (x : term.Guarded). holds (secret_lengths (reveals_of (core x)) op.strings) (test_of (core x)) ≡ true) branch op.predicate;
      }

  -- ---- secrets that were shown

  pub secret_names : are_different (names_of (secrets s.advert.pre)) ≡ true
  secret_names = secrets_different s.advert.pre (different_names s.advert whole.checked)

  -- what is shown first has the string that is found
  looked_shown : (tx : Tx) (ps : List (List ℕ × List ℕ)) (a : List ℕ) → is_among a (names_of ps) ≡ true
      → look_up a (map (λ p. (p.0, bytes_or_none (string_shown hash s tx (p.0)))) ps) ≡ Some (bytes_or_none (string_shown hash s tx a))
  looked_shown tx [] a h = cc
  looked_shown tx (p ∷ ps) a h = by_test (bytes_eq (p.0) a) refl h (looked_shown tx ps a)
    where
      by_test : (b : Bool) → bytes_eq (p.0) a ≡ b → (b || is_among a (names_of ps)) ≡ true
          → (is_among a (names_of ps) ≡ true
          → look_up a (map (λ q. (q.0, bytes_or_none (string_shown hash s tx (q.0)))) ps) ≡ Some (bytes_or_none (string_shown hash s tx a)))
          → cond b (Some (bytes_or_none (string_shown hash s tx (p.0)))) (look_up a (map (λ q. (q.0, bytes_or_none (string_shown hash s tx (q.0)))) ps))
          ≡ Some (bytes_or_none (string_shown hash s tx a))
      by_test true e k later = ap (λ (x : List ℕ). Some (bytes_or_none (string_shown hash s tx x))) (bytes-true (p.0) a e)
      by_test false e k later = later k

  pub look_append : {V : Type 0} (a : List ℕ) (xs ys : List (List ℕ × V)) (o : Option V) → look_up a xs ≡ o
      → look_up a (xs ++ ys) ≡ or_else o (look_up a ys)
  look_append a [] ys o e = ap (λ x. or_else x (look_up a ys)) e
  look_append a (x ∷ xs) ys o e = by_test (bytes_eq (x.0) a) e (look_append a xs ys o)
    where
      by_test : (b : Bool) → cond b (Some (x.1)) (look_up a xs) ≡ o → (look_up a xs ≡ o → look_up a (xs ++ ys) ≡ or_else o (look_up a ys))
          → cond b (Some (x.1)) (look_up a (xs ++ ys)) ≡ or_else o (look_up a ys)
      by_test true k later = ap (λ y. or_else y (look_up a ys)) k
      by_test false k later = later k

  -- after a transaction that shows a string of a secret the secret is shown
  pub shown_after : (state : State) (tx : Tx) (a t : List ℕ) → is_among a (names_of (secrets s.advert.pre)) ≡ true
      → Is_in t (items_in tx) → is_secret hash t (digest_of s.hashes a) ≡ true
      → is_some (look_up a (state.shown ++ strings_shown hash s state tx)) ≡ true
  shown_after state tx a t known h fits = by_before (look_up a state.shown) refl
    where
      string : is_some (string_shown hash s tx a) ≡ true
      string = find_any (is_string_of hash (digest_of s.hashes a)) (items_in tx) (any_there (is_string_of hash (digest_of s.hashes a)) (items_in tx) t h fits)

      by_before : (o : Option (List ℕ)) → look_up a state.shown ≡ o → is_some (look_up a (state.shown ++ strings_shown hash s state tx)) ≡ true
      by_before (Some bytes) e = ap is_some (look_append a state.shown (strings_shown hash s state tx) (Some bytes) e)
      by_before None e =
          let v = named_looked (secrets s.advert.pre) a known in
          let new : is_newly_shown hash s state tx a ≡ true = rw e string in
          let among = filter_has (λ (p : List ℕ × List ℕ). is_newly_shown hash s state tx (p.0))
          (secrets s.advert.pre) (a, v.0) (looked_in (secrets s.advert.pre) a v.0 v.1) new in
          ap is_some
          (look_append a state.shown (strings_shown hash s state tx) None e
          ∙ looked_shown tx (newly_shown hash s state tx) a (in_named (newly_shown hash s state tx) (a, v.0) among))

  -- ---- all that a branch reveals

  -- each is shown, and its length is that of a string on the stack
  pub each_shown : (state : State) (tx : Tx) (messages : List (List ℕ)) → NoCollision hash messages
      → ((t : List ℕ) → Is_in t (items_in tx) → is_among t messages ≡ true)
      → ((name bytes : List ℕ) → look_up name (state.shown ++ strings_shown hash s state tx) ≡ Some bytes → IsShown hash keys s messages name bytes)
      → (lengths : List ℕ → ℕ)
      → ((name bytes : List ℕ) → look_up name (state.shown ++ strings_shown hash s state tx) ≡ Some bytes → lengths name ≡ length bytes - least_secret_bytes)
      → (names strings : List (List ℕ)) → list_all (λ a. is_among a (names_of (secrets s.advert.pre))) names ≡ true
      → are_secrets hash strings (map (digest_of s.hashes) names) ≡ true
      → ((t : List ℕ) → Is_in t strings → Is_in t (items_in tx))
      → (list_all (λ a. is_some (look_up a (state.shown ++ strings_shown hash s state tx))) names ≡ true)
      × (map (λ a. (a, lengths a)) names ≡ secret_lengths names strings)
  each_shown state tx messages clear heard fine lengths are [] strings known fit items = (refl, refl)
  each_shown state tx messages clear heard fine lengths are (a ∷ names) [] known fit items = cc
  each_shown state tx messages clear heard fine lengths are (a ∷ names) (t ∷ strings) known fit items =
      let k = and_parts (is_among a (names_of (secrets s.advert.pre))) (list_all (λ x. is_among x (names_of (secrets s.advert.pre))) names) known in
      let f = and_parts (is_secret hash t (digest_of s.hashes a)) (are_secrets hash strings (map (digest_of s.hashes) names)) fit in
      let g = and_parts (has_length t) (bytes_eq (hash t) (digest_of s.hashes a)) f.0 in
      let h = items t (inl refl) in
      let here = shown_after state tx a t k.0 h f.0 in
      let v = some_there (look_up a (state.shown ++ strings_shown hash s state tx)) here in
      let is = fine a v.0 v.1 in
      let same : v.0 ≡ t = clear.one v.0 t is.among (heard t h) (is.fits ∙ sym (bytes-true (hash t) (digest_of s.hashes a) g.1)) in
      let size : lengths a ≡ length t - least_secret_bytes = are a v.0 v.1 ∙ ap (λ (x : List ℕ). length x - least_secret_bytes) same in
      let rest = each_shown state tx messages clear heard fine lengths are names strings k.1 f.1 (λ u i. items u (inr i)) in
      (and_from _ _ here rest.0, λ j. (a, size j) ∷ rest.1 j)
