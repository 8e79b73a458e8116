-- What every run keeps holds at its opening.
use Rattle.std.proofs.Common.{◌≡◌, ℕ, ◌+◌, List, [], ◌∷◌, ◌++◌, map, Bool, true, false, Option, Some, None, refl, sym, ap, ◌∙◌, subst, arith, inl, inr}
use Rattle.std.specs.Prelude.{slice_get, if◌then◌else◌}
use Rattle.std.specs.List.{list_all}
use Rattle.std.specs.Str.{bytes_eq}
use Rattle.std.proofs.lemmas.Bool.{and_parts, or_left, or_right, or_cases, both_ways}
use Rattle.spec_data.specs.Lists.{is_among}
use Rattle.spec_terms.specs.Advert.{Advert}
use Rattle.spec_bitcoin.specs.declared.tx.TxOut.{TxOut}
use Rattle.spec_bitcoin.specs.declared.label.Label.TheVariants as labels
use Rattle.spec_bitcoin.specs.Spelling.{stripped, IsPlace}
use Rattle.spec_bitcoin.specs.Digests.{txid, txid_strings, opening_transaction}
use Rattle.spec_bitcoin.specs.Keys.{label_text}
use Rattle.spec_calculus.specs.declared.step.Owner.TheVariants.{Party}
use Rattle.spec_calculus.specs.Moves.{made}
use Rattle.spec_calculus.specs.Steps.{owned}
use Rattle.spec_compiler.specs.Instance.{Instance, deposit_key}
use Rattle.spec_compiler.specs.Transactions.{party_script}
use Rattle.spec_run.specs.Setup.{Setup, is_declared, contract_at}
use Rattle.spec_run.specs.World.{Output}
use Rattle.spec_run.specs.Owners.{paid_to, owner_among, owner_by}
use Rattle.spec_run.specs.Compiled.{instance_if_complete, compiled_instance}
use Rattle.spec_run.specs.Conditions.{IsSetup}
use Rattle.spec_run.specs.Event.{opening_outputs, opening_strings, opening_world, opening_collision}
use Rattle.spec_run.specs.Ledger.{made_from}
use Rattle.spec_run.specs.Steps.{moved_output}
use Rattle.spec_run.specs.Translation.{opening_configuration}
use Rattle.spec_run.specs.Agreement.{Agree, is_placed}
use Rattle.theory_bitcoin.proofs.Labels.{one_label}
use Rattle.theory_calculus.proofs.Names.{bytes-true, bytes_refl}
use Rattle.theory_calculus.proofs.Members.{get_below}
use Rattle.theory_world.proofs.Tests.{length_map}
use Rattle.theory_world.proofs.Ledger.Outputs.{nothing_held, length-made_from, deposits-new, actives-new}
use Rattle.theory_run.specs.Tracks.{AgreeOnMoney}
use Rattle.theory_world.specs.KeptApart.{NoCollision}
use Rattle.theory_world.proofs.Hashed.{no_collision, no_collision_none, among_left, among_right, among_head, among_tail, all_new}
use Rattle.theory_run.specs.KeptSecrets.{KeptSecrets}
use Rattle.theory_world.proofs.Book.{key-apart}
use Rattle.theory_world.proofs.Later.{get-made}
use Rattle.theory_run.specs.KeptBook.{KeptBook}

-- ---- lists

pub among_map : (f : List ℕ → List ℕ) (x : List ℕ) (xs : List (List ℕ)) → is_among x xs ≡ true → is_among (f x) (map f xs) ≡ true
among_map f x [] h = cc
among_map f x (y ∷ xs) h = elim (or_cases (bytes_eq y x) (is_among x xs) h) [
  | inl u ↦ or_left _ _ (subst (λ z. bytes_eq (f y) (f z) ≡ true) (bytes-true y x u) (bytes_refl (f y)))
  | inr v ↦ or_right (bytes_eq (f y) (f x)) _ (among_map f x xs v)
]

-- ---- whose a script is

module _ (s : Setup) (hs : List (List ℕ))
    (clear : NoCollision s.hash hs) (labelled : (a : List ℕ) → is_declared s a ≡ true → is_among (label_text (labels.Deposit a)) hs ≡ true)
    (programs : (a : List ℕ) → is_declared s a ≡ true → is_among (party_script s.hash a) hs ≡ true) where
  -- different parties have different scripts
  pub one_payee : (a b : List ℕ) → is_declared s a ≡ true → is_declared s b ≡ true → paid_to s a ≡ paid_to s b → a ≡ b
  one_payee a b ha hb e =
      let h : s.hash (party_script s.hash a) ≡ s.hash (party_script s.hash b) = cc in
      let p : party_script s.hash a ≡ party_script s.hash b = clear.one (party_script s.hash a) (party_script s.hash b) (programs a ha) (programs b hb) h in
      let k : deposit_key s.hash a ≡ deposit_key s.hash b = same_key (deposit_key s.hash a) (deposit_key s.hash b) p in
      let t = key-apart s.hash hs (labels.Deposit a) (labels.Deposit b) clear (labelled a ha) (labelled b hb) k in
      let l = one_label (labels.Deposit a) (labels.Deposit b) tt tt t in
      cc
    where
      -- what stands before the last byte is the same
      prefix : (x y : List ℕ) → x ++ 172 ∷ [] ≡ y ++ 172 ∷ [] → x ≡ y
      prefix [] [] e = refl
      prefix [] (b ∷ []) e = cc
      prefix [] (b ∷ (c ∷ y)) e = cc
      prefix (a ∷ []) [] e = cc
      prefix (a ∷ (c ∷ x)) [] e = cc
      prefix (a ∷ x) (b ∷ y) e =
          let h : a ≡ b = cc in
          let r : x ++ 172 ∷ [] ≡ y ++ 172 ∷ [] = cc in
          let i = prefix x y r in
          λ j. h j ∷ i j

      same_key : (x y : List ℕ) → 33 ∷ (x ++ 172 ∷ []) ≡ 33 ∷ (y ++ 172 ∷ []) → x ≡ y
      same_key x y e = let r : x ++ 172 ∷ [] ≡ y ++ 172 ∷ [] = cc in prefix x y r

  owner_in : (a : List ℕ) (ps : List (List ℕ)) → is_declared s a ≡ true → ((b : List ℕ) → is_among b ps ≡ true → is_declared s b ≡ true)
      → is_among a ps ≡ true → owner_among s ps (paid_to s a) ≡ Party a
  owner_in a [] h d i = cc
  owner_in a (p ∷ ps) h d i = by_test (bytes_eq (paid_to s p) (paid_to s a)) refl (owner_in a ps h (λ b k. d b (among_tail b p ps k)))
    where
      by_test : (t : Bool) → bytes_eq (paid_to s p) (paid_to s a) ≡ t → (is_among a ps ≡ true → owner_among s ps (paid_to s a) ≡ Party a)
          → (if t then Party p else owner_among s ps (paid_to s a)) ≡ Party a
      by_test true e ih = ap Party (one_payee p a (d p (among_head p ps)) h (bytes-true (paid_to s p) (paid_to s a) e))
      by_test false e ih = elim (or_cases (bytes_eq p a) (is_among a ps) i) [
        | inl q ↦
            let z = bytes-true p a q in
            let y : bytes_eq (paid_to s p) (paid_to s a) ≡ true = subst (λ x. bytes_eq (paid_to s p) (paid_to s x) ≡ true) z (bytes_refl (paid_to s p)) in
            absurd (both_ways _ e y)
        | inr q ↦ ih q
      ]

  -- the owner that is read from a declared party's script is the party
  pub owner_is : (a : List ℕ) → is_declared s a ≡ true → owner_by s (paid_to s a) ≡ Party a
  owner_is a h = owner_in a s.header.parties h (λ b k. k) h

  owners_are : (ds : List (List ℕ × ℕ)) → list_all (λ d. is_declared s (d.0)) ds ≡ true
      → map (moved_output s) (map {B = TxOut} (λ d. record { value = d.1; script = paid_to s (d.0) }) ds) ≡ owned ds
  owners_are [] h = refl
  owners_are (d ∷ ds) h =
      let p = and_parts (is_declared s (d.0)) (list_all (λ x. is_declared s (x.0)) ds) h in
      let o = owner_is (d.0) p.0 in
      let r = owners_are ds p.1 in
      λ i. (o i, d.1) ∷ r i

-- ---- the opening

module _ (s : Setup) (is : IsSetup s) (opens : opening_collision s ≡ None) where
  pub clear : NoCollision s.hash (opening_world s).hashed
  clear = no_collision s.hash [] (opening_strings s) (no_collision_none s.hash) opens

  abbrev deposit_labels : List (List ℕ)
  deposit_labels = map (λ party. label_text (labels.Deposit party)) s.header.parties

  abbrev deposit_scripts : List (List ℕ)
  deposit_scripts = map (party_script s.hash) s.header.parties

  abbrev transaction : List (List ℕ)
  transaction = txid_strings s.hash (opening_transaction (opening_outputs s))

  labelled : (a : List ℕ) → is_declared s a ≡ true → is_among (label_text (labels.Deposit a)) (opening_world s).hashed ≡ true
  labelled a h =
      let t = label_text (labels.Deposit a) in
      all_new [] (opening_strings s) t (among_left t deposit_labels (deposit_scripts ++ transaction)
      (among_map (λ party. label_text (labels.Deposit party)) a s.header.parties h))

  programs : (a : List ℕ) → is_declared s a ≡ true → is_among (party_script s.hash a) (opening_world s).hashed ≡ true
  programs a h =
      let t = party_script s.hash a in
      all_new [] (opening_strings s) t (among_right t deposit_labels (deposit_scripts ++ transaction)
      (among_left t deposit_scripts transaction (among_map (party_script s.hash) a s.header.parties h)))

  of_transaction : (t : List ℕ) → is_among t transaction ≡ true → is_among t (opening_world s).hashed ≡ true
  of_transaction t h =
      all_new [] (opening_strings s) t (among_right t deposit_labels (deposit_scripts ++ transaction) (among_right t deposit_scripts transaction h))

  pub opening_money : AgreeOnMoney s (opening_configuration s) (opening_world s)
  opening_money = record {
    time = refl;
    next =
        let a = length-made_from nothing_held (txid s.hash (opening_transaction (opening_outputs s))) 0 (opening_outputs s) in
        let b = length_map {Y = TxOut} (λ d. record { value = d.1; script = paid_to s (d.0) }) s.header.deposits in
        sym (a ∙ b);
    deposits =
        let a = deposits-new s 0 0 (txid s.hash (opening_transaction (opening_outputs s))) (opening_outputs s) in
        let b = owners_are s (opening_world s).hashed clear labelled programs s.header.deposits is.header.depositors in
        sym (a ∙ ap (made 0) b);
    active = sym (actives-new 0 0 (txid s.hash (opening_transaction (opening_outputs s))) (opening_outputs s));
    moves = refl;
  }

  pub opening_secrets : (z : List (List ℕ)) → KeptSecrets s z (opening_configuration s) (opening_world s)
  opening_secrets z = record {
    lengths = refl;
    revealed = λ x. refl;
    known = λ x h. cc;
    own = λ x h. refl;
    clear = clear;
    heard = λ t h. cc;
    once = record { one = λ x y d h k. cc };
    early = λ a n t h k. cc;
    full = λ x h k. cc;
  }

  -- no contract is compiled
  none_compiled : (k : ℕ) (st : Instance) → compiled_instance s (opening_world s) k ≡ Some st → ⊥
  none_compiled k st h = by_contract (contract_at s k) h
    where
      by_contract : (o : Option Advert) → instance_if_complete (opening_world s) k o ≡ Some st → ⊥
      by_contract None e = cc
      by_contract (Some a) e = cc

  pub opening_book : KeptBook s (opening_configuration s) (opening_world s)
  opening_book = record {
    labelled = labelled;
    programs = programs;
    opened =
        let t = stripped (opening_transaction (opening_outputs s)) in
        (of_transaction t (among_head t (s.hash t ∷ [])), of_transaction (s.hash t) (among_tail (s.hash t) t (s.hash t ∷ []) (among_head (s.hash t) [])));
    apart = λ m n o p h k e.
        let a = (made_there m o h).2 in
        let b = (made_there n p k).2 in
        let x : o.outpoint.vout ≡ m + 0 = ap (λ (y : Output). y.outpoint.vout) a in
        let y : p.outpoint.vout ≡ n + 0 = ap (λ (y : Output). y.outpoint.vout) b in
        let z : o.outpoint.vout ≡ p.outpoint.vout = ap (λ q. q.vout) e in
        omega (arith, x, y, z);
    origin = λ n o h. inl (ap (λ (y : Output). y.outpoint.txid) (made_there n o h).2);
    placed_fine = λ n o h.
        let r = made_there n o h in
        subst IsPlace (sym (ap (λ (y : Output). y.outpoint) r.2)) (record {
          txid = is.hash.bytes (s.hash (stripped (opening_transaction (opening_outputs s))));
          size = is.hash.size (s.hash (stripped (opening_transaction (opening_outputs s))));
          vout =
              let f = get_below (opening_outputs s) n r.0 r.1 in
              let b = length_map {Y = TxOut} (λ d. record { value = d.1; script = paid_to s (d.0) }) s.header.deposits in
              let few = is.header.few_deposits in
              omega (arith, f, b, few);
        });
    adverts = λ k h. cc;
    heard = λ k st h t i. absurd (none_compiled k st h);
    held = λ n o h e i. let r = ap (λ (y : Output). y.holds) (made_there n o e).2 in cc;
    placed = λ k st q here choice n o c e h p. absurd (none_compiled k st c);
    deposit_pairs = λ a d h k x. cc;
    branch_pairs = λ k st q here choice i b a d c e t p h x. cc;
  }
    where
      made_there : (n : ℕ) (o : Output) → slice_get (opening_world s).outputs n ≡ Some o
          → (x : TxOut) × (slice_get (opening_outputs s) n ≡ Some x)
          × (o ≡ record {
            outpoint = record {
              txid = txid s.hash
                  (opening_transaction (opening_outputs s));
              vout = n + 0;
            };
            value = x.value;
            script = x.script;
            live = true;
            holds = None;
          })
      made_there n o h = get-made nothing_held (txid s.hash (opening_transaction (opening_outputs s))) 0 n (opening_outputs s) o h

  -- configuration and world agree at the opening
  pub opening_agrees : Agree s (opening_configuration s) (opening_world s)
  opening_agrees = record {
    time = opening_money.time;
    next = opening_money.next;
    deposits = opening_money.deposits;
    active = opening_money.active;
    placed = all_placed 0 (opening_outputs s);
    revealed = λ x. refl;
    advertised = refl;
    committed = refl;
  }
    where
      all_placed : (k : ℕ) (os : List TxOut) → list_all (is_placed s (opening_world s))
          (made_from nothing_held (txid s.hash (opening_transaction (opening_outputs s))) k os) ≡ true
      all_placed k [] = refl
      all_placed k (o ∷ os) = all_placed (k + 1) os
