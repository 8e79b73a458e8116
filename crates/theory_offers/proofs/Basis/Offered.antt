-- What every run keeps for the offers besides, and deposits that can be spent.
use Rattle.std.proofs.Common.{◌≡◌, ℕ, suc, ◌+◌, ◌≤◌, List, [], ◌∷◌, ◌++◌, length, map, true, false, not, Option, Some, None, refl, sym, ap, ◌∙◌, subst, arith, inl, inr, length-append}
use Rattle.std.specs.Prelude.{◌==◌, slice_get, is_some, nat_le}
use Rattle.std.specs.Option.{is_none}
use Rattle.std.specs.Str.{bytes_eq}
use Rattle.std.proofs.lemmas.Bool.{and_parts, and_from, or_from, or_parts, ne_eqb, both_ways, not-true, not_from_false}
use Rattle.std.proofs.lemmas.Bool.Decides.{nat_tests}
use Rattle.spec_data.specs.Lists.{is_among, are_different, has_number, are_distinct, look_up}
use Rattle.spec_terms.specs.Term as term
use Rattle.spec_terms.specs.Term.{Contract, branches}
use Rattle.spec_terms.specs.Core.{is_asked}
use Rattle.spec_terms.specs.Precondition.{Holding, deposits, persistent}
use Rattle.spec_terms.specs.declared.path.PathStep.TheVariants.{Branch as To}
use Rattle.spec_bitcoin.specs.declared.tx.Tx.{Tx}
use Rattle.spec_bitcoin.specs.Keys.{Pair, key_of, has_signed, is_valid, signature_of}
use Rattle.spec_bitcoin.specs.Meaning.{script_meaning}
use Rattle.spec_data.specs.Ranges.{max_money}
use Rattle.spec_calculus.specs.Configuration.{Configuration}
use Rattle.spec_calculus.specs.Beginning.{is_init_authorised}
use Rattle.spec_calculus.specs.Branches.{has_branch_authorised}
use Rattle.spec_compiler.specs.Instance.{Instance, branch_label, deposit_key}
use Rattle.spec_compiler.specs.Statements.{IsHash, is_short}
use Rattle.spec_compiler.specs.declared.unsigned.Spent.{Spent}
use Rattle.spec_compiler.specs.Transactions.{Standing, tx_of, digest_of_spent, deposit, branch_unsigned, initial_unsigned, party_script}
use Rattle.spec_compiler.specs.ByPath.{position_at}
use Rattle.spec_compiler.specs.Endorsements.{is_endorsed}
use Rattle.spec_run.specs.Setup.{Setup}
use Rattle.spec_run.specs.Committing.{secrets_at}
use Rattle.spec_run.specs.World.{ContractPosition, Promise, World, output_at, is_deposit, live_position_at, bindings_at, is_advertised, has_promised}
use Rattle.spec_run.specs.Compiled.{compiled_instance}
use Rattle.spec_run.specs.Giving.{deposit_witness}
use Rattle.spec_run.specs.Firing.{deposit_witnesses}
use Rattle.spec_run.specs.Steps.{names_deposit, is_bound_live}
use Rattle.spec_run.specs.Values.{live_value}
use Rattle.theory_calculus.proofs.Names.{bytes_refl}
use Rattle.theory_calculus.specs.Members.{Is_in}
use Rattle.theory_script.proofs.Scripts.Deposits.{deposit_meaning}
use Rattle.theory_world.proofs.Later.{compiled_is}
use Rattle.theory_run.specs.Tracks.{Constant}
use Rattle.theory_run.specs.KeptBook.{KeptBook}
use Rattle.theory_run.proofs.Accepted.WhatItIs.{AtBound, at_bound}
use Rattle.theory_world.proofs.Ledger.Acceptable.{Ready, AllReady}

-- what the offers of a run rest on, besides what is kept of the book and of the secrets
pub record KeptOffers (s : Setup) (g : Configuration) (w : World) : Type 0 where
  pub constant : Constant s g
  pub height : w.tip ≤ 499999999
  pub money : live_value w ≤ max_money
  -- only to an advertised contract is committed
  pub told : (k : ℕ) (a : List ℕ) → has_promised w k a ≡ true → is_advertised w k ≡ true
  -- a commitment has none but its party's secrets
  pub named : (p : Promise) (name : List ℕ) → Is_in p w.promises → is_some (look_up name p.digests) ≡ true
      → is_among name (secrets_at s p.contract p.party) ≡ true
  -- only a compiled contract is let take deposits, and a branch is authorised of an output that was made
  pub compiled_first : (k : ℕ) (x : List ℕ) → is_init_authorised g.init_authorised k x ≡ true → is_some (compiled_instance s w k) ≡ true
  pub born : (n i : ℕ) (a : List ℕ) → has_branch_authorised g.branch_authorised n i a ≡ true → is_some (output_at w n) ≡ true
  -- an active contract is endorsed
  pub endorsed : (n : ℕ) (h : ContractPosition) (st : Instance) → live_position_at w n ≡ Some h → compiled_instance s w h.contract ≡ Some st
      → is_endorsed s.hash st w.book ≡ true
  -- a live deposit that a contract may take has its pair in the book
  pub inits : (k : ℕ) (st : Instance) (d : List ℕ × Holding) → compiled_instance s w k ≡ Some st → Is_in d (persistent st.advert.pre)
      → is_init_authorised g.init_authorised k (d.0) ≡ true → is_bound_live w k d ≡ true
      → has_signed w.book (deposit_key s.hash (d.1).owner) (digest_of_spent s.hash (tx_of (initial_unsigned s.hash st)) (deposit s.hash st (d.0) (d.1))) ≡ true
  -- a branch of an active contract that a party has authorised, and that asks it, has its pair in the book
  pub asked : (n i : ℕ) (a : List ℕ) (h : ContractPosition) (st : Instance) (here : Standing) (choice : Contract) (b : term.Guarded)
      → live_position_at w n ≡ Some h → compiled_instance s w h.contract ≡ Some st → position_at s.hash st h.position ≡ Some (here, choice)
      → slice_get (branches choice) i ≡ Some b
      → is_asked b a ≡ true → has_branch_authorised g.branch_authorised n i a ≡ true
      → has_signed w.book (key_of s.hash (branch_label h.contract (h.position ++ To i ∷ []) a))
      (digest_of_spent s.hash (tx_of (branch_unsigned s.hash st here i b)) here.output) ≡ true

-- the number of a look-up, 0 without one
abbrev pub or_zero : Option ℕ → ℕ
or_zero None = 0
or_zero (Some n) = n

-- the number of the output that a name of a contract is bound to
abbrev pub number_of : World → ℕ → List ℕ → ℕ
number_of w k name = or_zero (look_up name (bindings_at w.advertised k))

-- a digest has 32 bytes
pub digest_size : (hash : List ℕ → List ℕ) → IsHash hash → (tx : Tx) (x : Spent) → length (digest_of_spent hash tx x) ≡ 32
digest_size hash size tx x = size _

-- a signature is short
pub signature_short : (key d : List ℕ) → length key ≡ 33 → length d ≡ 32 → is_short (signature_of key d) ≡ true
signature_short key d k l =
    let e : length (signature_of key d) ≡ length key + length d + 1 = length-append (key ++ d) (1 ∷ []) ∙ ap (λ n. n + 1) (length-append key d) in
    below (length (signature_of key d)) (omega (arith, e, k, l))
  where
    below : (n : ℕ) → n ≤ 520 → nat_le n 520 ≡ true
    below n h = grind (arith, nat_tests, h)

pub key_size : (hash : List ℕ → List ℕ) → IsHash hash → (a : List ℕ) → length (deposit_key hash a) ≡ 33
key_size hash size a = ap suc (size _)

-- one signature that stands in the book opens a deposit
pub opens_deposit : (hash : List ℕ → List ℕ) → IsHash hash → (book : List Pair) (a d : List ℕ) → length d ≡ 32 → has_signed book (deposit_key hash a) d ≡ true
    → script_meaning hash (is_valid book d) (party_script hash a) (signature_of (deposit_key hash a) d ∷ []) ≡ true
opens_deposit hash size book a d l h =
    let key = deposit_key hash a in
    let sig = signature_of key d in
    let m = deposit_meaning hash (is_valid book d) key (sig ∷ []) (key_size hash size a) (and_from _ _ (signature_short key d (key_size hash size a) l) refl) in
    let v : is_valid book d sig key ≡ true = and_from _ _ (bytes_refl sig) h in
    m ∙ and_from _ _ v refl

module _ (s : Setup) (size : IsHash s.hash)
    (g : Configuration) (w : World) (kept : KeptBook s g w) (k : ℕ) (st : Instance) (compiled : compiled_instance s w k ≡ Some st) where
  same_contract : st.contract ≡ k
  same_contract = ap (λ (y : Instance). y.contract) (compiled_is s w k st compiled).is

  at_k : (name : List ℕ) (h : Holding) (a : AtBound s w st name h) → look_up name (bindings_at w.advertised k) ≡ Some a.number
  at_k name h a = subst (λ m. look_up name (bindings_at w.advertised m) ≡ Some a.number) same_contract a.looked

  pub number_is : (name : List ℕ) (h : Holding) (a : AtBound s w st name h) → number_of w k name ≡ a.number
  number_is name h a = ap or_zero (at_k name h a)

  module _ (tx : Tx) where
    -- a deposit that is there, and whose owner has signed
    pub record IsOpen (d : List ℕ × Holding) : Type 0 where
      pub known : Is_in d (deposits st.advert.pre)
      pub live : is_bound_live w k d ≡ true
      pub signed : has_signed w.book (deposit_key s.hash (d.1).owner) (digest_of_spent s.hash tx (deposit s.hash st (d.0) (d.1))) ≡ true

    ready : (name : List ℕ) (h : Holding) → IsOpen (name, h)
        → Ready s w tx (deposit s.hash st name h) (deposit_witness s h.owner (digest_of_spent s.hash tx (deposit s.hash st name h))) (number_of w k name)
    ready name h o =
        let a = at_bound s g w kept k st compiled name h o.known in
        let e = number_is name h a in
        let dep : is_deposit (output_at w a.number) ≡ true = subst (λ r. names_deposit w r ≡ true) (at_k name h a) o.live in
        let dep' : is_deposit (Some a.bound.output) ≡ true = subst (λ r. is_deposit r ≡ true) a.bound.there dep in
        let dg = digest_of_spent s.hash tx (deposit s.hash st name h) in
        record {
          output = a.bound.output;
          there = ap (slice_get w.outputs) e ∙ a.bound.there;
          live = (and_parts a.bound.output.live (is_none a.bound.output.holds) dep').0;
          outpoint = a.outpoint;
          value = sym a.bound.value;
          pays = a.bound.script;
          items = signature_of (deposit_key s.hash h.owner) dg ∷ [];
          is = refl;
          short = and_from _ _ (signature_short (deposit_key s.hash h.owner) dg (key_size s.hash size h.owner)
              (digest_size s.hash size tx (deposit s.hash st name h))) refl;
          runs = opens_deposit s.hash size w.book h.owner dg (digest_size s.hash size tx (deposit s.hash st name h)) o.signed;
        }

    -- all these deposits are ready
    pub ready_all : {A : Type 0} (f : A → List ℕ × Holding) (xs : List A) → ((a : A) → Is_in a xs → IsOpen (f a))
        → AllReady s w tx (map (λ a. deposit s.hash st ((f a).0) ((f a).1)) xs)
        (deposit_witnesses s (map (λ a. ((f a).1).owner) xs)
        (map (digest_of_spent s.hash tx) (map (λ a. deposit s.hash st ((f a).0) ((f a).1)) xs))) (map (λ a. number_of w k ((f a).0)) xs)
    ready_all f [] h = tt
    ready_all f (a ∷ xs) h = (ready ((f a).0) ((f a).1) (h a (inl refl)), ready_all f xs (λ b i. h b (inr i)))

  -- ---- their numbers differ

  one_name : (x y : List ℕ) (hx hy : Holding) → Is_in (x, hx) (deposits st.advert.pre) → Is_in (y, hy) (deposits st.advert.pre)
      → number_of w k x ≡ number_of w k y → x ≡ y
  one_name x y hx hy ix iy e =
      let a = at_bound s g w kept k st compiled x hx ix in
      let b = at_bound s g w kept k st compiled y hy iy in
      let m : a.number ≡ b.number = sym (number_is x hx a) ∙ e ∙ number_is y hy b in
      let ad = kept.adverts k (compiled_is s w k st compiled).advertised in
      ad.apart x y b.number (at_k x hx a ∙ ap Some m) (at_k y hy b)

  not_there : {A : Type 0} (f : A → List ℕ × Holding) (x : List ℕ) (hx : Holding) (xs : List A) → Is_in (x, hx) (deposits st.advert.pre)
      → ((a : A) → Is_in a xs → Is_in (f a) (deposits st.advert.pre))
      → is_among x (map (λ a. (f a).0) xs) ≡ false → has_number (number_of w k x) (map (λ a. number_of w k ((f a).0)) xs) ≡ false
  not_there f x hx [] ix h d = refl
  not_there f x hx (a ∷ xs) ix h d =
      let p = or_parts (bytes_eq ((f a).0) x) (is_among x (map (λ a. (f a).0) xs)) d in
      let n : (number_of w k ((f a).0) == number_of w k x) ≡ false = ne_eqb (number_of w k ((f a).0)) (number_of w k x) (λ e.
      let z : (f a).0 ≡ x = one_name ((f a).0) x ((f a).1) hx (h a (inl refl)) ix e in
      both_ways _ p.0 (subst (λ y. bytes_eq ((f a).0) y ≡ true) z (bytes_refl ((f a).0)))) in
      or_from _ _ n (not_there f x hx xs ix (λ b i. h b (inr i)) p.1)

  pub numbers_apart : {A : Type 0} (f : A → List ℕ × Holding) (xs : List A) → ((a : A) → Is_in a xs → Is_in (f a) (deposits st.advert.pre))
      → are_different (map (λ a. (f a).0) xs) ≡ true
      → are_distinct (map (λ a. number_of w k ((f a).0)) xs) ≡ true
  numbers_apart f [] h d = refl
  numbers_apart f (a ∷ xs) h d =
      let p = and_parts (not (is_among ((f a).0) (map (λ a. (f a).0) xs))) (are_different (map (λ a. (f a).0) xs)) d in
      and_from _ _ (not_from_false _ (not_there f ((f a).0) ((f a).1) xs (h a (inl refl)) (λ b i. h b (inr i)) (not-true _ p.0)))
      (numbers_apart f xs (λ b i. h b (inr i)) p.1)
