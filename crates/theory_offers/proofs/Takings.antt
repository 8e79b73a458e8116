-- An offered branch has a transaction that is accepted.
use Rattle.std.proofs.Common.{◌≡◌, ℕ, suc, ◌<◌, ◌≤◌, List, [], ◌∷◌, ◌++◌, length, map, Bool, true, false, Option, Some, None, refl, sym, ap, ◌∙◌, subst, arith, inl, inr}
use Rattle.std.specs.Prelude.{slice_get, if◌then◌else◌, option_map}
use Rattle.std.specs.List.{list_all}
use Rattle.std.proofs.lemmas.Bool.{and_from, or_from, ne_eqb, not_from_false}
use Rattle.spec_data.specs.Lists.{is_among, are_different, has_number, look_up}
use Rattle.spec_terms.specs.Term as term
use Rattle.spec_terms.specs.Term.{Contract, branches}
use Rattle.spec_terms.specs.Core.{core, lock, is_asked, puts_of, reveals_of, test_of}
use Rattle.spec_terms.specs.Value.{holds}
use Rattle.spec_terms.specs.Precondition.{Holding, deposits, volatile}
use Rattle.spec_terms.specs.declared.path.PathStep.{PathStep}
use Rattle.spec_terms.specs.declared.path.PathStep.TheVariants.{Branch as To}
use Rattle.spec_bitcoin.specs.declared.tx.Tx.{Tx}
use Rattle.spec_bitcoin.specs.declared.verdict.Verdict.TheVariants as verdicts
use Rattle.spec_bitcoin.specs.Verdict as bitcoin
use Rattle.spec_bitcoin.specs.Keys.{Pair, key_of, has_signed, is_valid, signature_of}
use Rattle.spec_bitcoin.specs.Meaning.{script_meaning}
use Rattle.spec_calculus.specs.Configuration.{Configuration}
use Rattle.spec_calculus.specs.Branches.{has_branch_authorised}
use Rattle.spec_compiler.specs.Instance.{Instance, branch_path, branch_label, people, position_script}
use Rattle.spec_compiler.specs.Scripts.{digest_of}
use Rattle.spec_compiler.specs.Statements.{IsCompiled, is_short, are_valid, are_secrets, secret_lengths, Fills}
use Rattle.spec_compiler.specs.declared.unsigned.Unsigned.{Unsigned}
use Rattle.spec_compiler.specs.Transactions.{Standing, tx_of, digest_of_spent, prepared, holding_or_none, branch_unsigned}
use Rattle.spec_compiler.specs.ByPath.{prepared_at}
use Rattle.spec_compiler.specs.Witness.{witness_stack}
use Rattle.spec_run.specs.Setup.{Setup, contract_at}
use Rattle.spec_run.specs.World.{ContractPosition, Output, World, live_position_at, bindings_at}
use Rattle.spec_run.specs.Compiled.{compiled_instance}
use Rattle.spec_run.specs.Conditions.{IsSetup}
use Rattle.spec_run.specs.Firing.{branch_signatures, shown_strings, first_unshown, branch_witness, taking_witnesses, taking_transaction, taking_of_parts, taking_of_position}
use Rattle.spec_run.specs.Signing.{prepared_if_compiled}
use Rattle.spec_run.specs.Ledger.{verdict_in, contract_in, position_path, position_branch}
use Rattle.spec_run.specs.Steps.{names_deposit}
use Rattle.theory_calculus.proofs.Names.{bytes_refl}
use Rattle.theory_calculus.specs.Members.{Is_in}
use Rattle.theory_script.proofs.Scripts.Witnesses.{witness_opens, stack_short, secrets_short}
use Rattle.theory_script.proofs.Listing.Stands.{position_stands}
use Rattle.theory_world.proofs.Hashed.{among_tail, among_head}
use Rattle.theory_world.proofs.Later.{compiled_is}
use Rattle.theory_world.proofs.Contracts.Standing.{unsigned_of_branch, position_named, term_choice}
use Rattle.theory_run.specs.KeptBook.{KeptBook, HeldFine}
use Rattle.theory_run.proofs.Accepted.Spending.{Checked}
use Rattle.theory_run.proofs.Accepted.Kinded.{looked_branch}
use Rattle.theory_run.proofs.Accepted.WhatItIs.{at_bound}
use Rattle.theory_world.proofs.Ledger.Acceptable.{Ready, Asked, accepts, worth}
use Rattle.theory_offers.proofs.Basis.Offered.{KeptOffers, number_of, IsOpen, ready_all, numbers_apart, number_is, digest_size, signature_short}
use Rattle.theory_offers.proofs.AllSigned.{branch_met, put_met}

-- signatures of a digest whose pairs stand in the book
signed_each : (book : List Pair) (d : List ℕ) (f : List ℕ → List ℕ) (ps : List (List ℕ))
    → ((a : List ℕ) → is_among a ps ≡ true → has_signed book (f a) d ≡ true)
    → are_valid (is_valid book d) (map (λ key. signature_of key d) (map f ps)) (map f ps) ≡ true
signed_each book d f [] h = refl
signed_each book d f (p ∷ ps) h =
    and_from _ _ (and_from _ _ (bytes_refl (signature_of (f p) d)) (h p (among_head p ps))) (signed_each book d f ps (λ a i. h a (among_tail a p ps i)))

short_each : (d : List ℕ) (f : List ℕ → List ℕ) (ps : List (List ℕ)) → length d ≡ 32 → ((a : List ℕ) → length (f a) ≡ 33)
    → list_all is_short (map (λ key. signature_of key d) (map f ps)) ≡ true
short_each d f [] l h = refl
short_each d f (p ∷ ps) l h = and_from _ _ (signature_short (f p) d (h p) l) (short_each d f ps l h)

-- ---- a branch that may be taken

-- what the steps of branches ask in common, and what their transactions rest on
pub record MayTake (s : Setup) (g : Configuration) (w : World) (n i : ℕ) : Type 0 where
  pub output : Output
  pub there : slice_get w.outputs n ≡ Some output
  pub live : output.live ≡ true
  pub held : ContractPosition
  pub holds_it : output.holds ≡ Some held
  pub fine : HeldFine s w output held
  pub branch : term.Guarded
  pub is_branch : slice_get (branches fine.choice) i ≡ Some branch
  pub reached : lock branch ≤ w.tip
  pub agreed : (a : List ℕ) → is_asked branch a ≡ true → has_branch_authorised g.branch_authorised n i a ≡ true
  -- deposits that it puts
  pub live_puts : (name : List ℕ) → Is_in name (puts_of (core branch)) → names_deposit w (look_up name (bindings_at w.advertised held.contract)) ≡ true
  pub known_puts : (name : List ℕ) → Is_in name (puts_of (core branch))
      → Is_in (name, holding_or_none (look_up name (volatile fine.instance.advert.pre))) (deposits fine.instance.advert.pre)
  pub different_puts : are_different (puts_of (core branch)) ≡ true
  -- secrets that it reveals
  pub shown : first_unshown s w fine.instance (reveals_of (core branch)) ≡ None
  pub fits : are_secrets s.hash (shown_strings s w fine.instance (reveals_of (core branch)))
      (map (digest_of fine.instance.hashes) (reveals_of (core branch))) ≡ true
  pub predicate : holds (secret_lengths (reveals_of (core branch)) (shown_strings s w fine.instance (reveals_of (core branch)))) (test_of (core branch)) ≡ true
  -- what it makes
  pub makes : 0 < length (branch_unsigned s.hash fine.instance fine.here i branch).outputs
  pub enough : bitcoin.total_of (branch_unsigned s.hash fine.instance fine.here i branch).outputs ≤ worth
      (branch_unsigned s.hash fine.instance fine.here i branch).spends

module _ (s : Setup) (setup : IsSetup s) (g : Configuration)
    (w : World) (kept : KeptBook s g w) (check : Checked s w) (more : KeptOffers s g w) (n i : ℕ) (may : MayTake s g w n i) where
  abbrev pub held : ContractPosition
  held = may.held

  abbrev pub st : Instance
  st = may.fine.instance

  abbrev pub here : Standing
  here = may.fine.here

  abbrev pub choice : Contract
  choice = may.fine.choice

  abbrev pub b : term.Guarded
  b = may.branch

  abbrev pub made : Unsigned
  made = branch_unsigned s.hash may.fine.instance may.fine.here i may.branch

  abbrev pub dg : List ℕ
  dg = digest_of_spent s.hash (tx_of made) may.fine.here.output

  abbrev pub path : List PathStep
  path = position_path may.held i

  pub held_is : live_position_at w n ≡ Some may.held
  held_is = ap active may.there ∙ rw may.live may.holds_it
    where
      active : Option Output → Option ContractPosition
      active None = None
      active (Some o) = if o.live then o.holds else None

  same_contract : st.contract ≡ held.contract
  same_contract = ap (λ (y : Instance). y.contract) (compiled_is s w held.contract st may.fine.compiled).is

  path_is : branch_path here.position i ≡ path
  path_is = ap (λ p. p ++ To i ∷ []) (position_named s.hash st held.position here choice may.fine.stands)

  comp : IsCompiled st held.position choice
  comp = record {
    checked = check.checked held.contract st may.fine.compiled;
    committed = check.committed held.contract st
        may.fine.compiled;
    is_position = term_choice s.hash st held.position here choice may.fine.stands;
  }

  -- each participant has signed
  all_signed : (a : List ℕ) → is_among a (people st) ≡ true → has_signed w.book (key_of s.hash (branch_label st.contract path a)) dg ≡ true
  all_signed a h = by_asked (is_asked b a) refl
    where
      by_asked : (t : Bool) → is_asked b a ≡ t → has_signed w.book (key_of s.hash (branch_label st.contract path a)) dg ≡ true
      by_asked true e = subst (λ k. has_signed w.book (key_of s.hash (branch_label k path a)) dg ≡ true) (sym same_contract)
          (more.asked n i a held st here choice b held_is may.fine.compiled may.fine.stands may.is_branch e (may.agreed a e))
      by_asked false e = subst (λ p. has_signed w.book (key_of s.hash (branch_label st.contract p a)) dg ≡ true) path_is
          (branch_met s.hash st w.book held.position here choice i b may.fine.stands may.is_branch (more.endorsed n held st held_is may.fine.compiled) a h e)

  abbrev pub sigs : List (List ℕ)
  sigs = branch_signatures s st path dg

  abbrev pub strings : List (List ℕ)
  strings = shown_strings s w st (reveals_of (core b))

  pub fills : Fills s.hash (is_valid w.book dg) st held.position choice i sigs strings
  fills = record {
    b = may.branch;
    is_branch = may.is_branch;
    fits = may.fits;
    predicate = may.predicate;
    signed = signed_each w.book dg (λ party. key_of s.hash (branch_label st.contract path party)) (people st) all_signed;
    short = short_each dg (λ party. key_of s.hash (branch_label st.contract path party)) (people st)
        (digest_size s.hash setup.hash.size (tx_of made) here.output) (λ a. ap suc (setup.hash.size _));
  }

  script_is : here.output.script ≡ position_script s.hash st held.position choice
  script_is = (position_stands s.hash st held.position here choice may.fine.stands).script

  abbrev pub witness : List (List ℕ)
  witness = branch_witness s w st held i choice b dg

  first_ready : Ready s w (tx_of made) here.output witness n
  first_ready =
      let stack = witness_stack sigs strings i (length (branches choice)) in
      record {
        output = may.output;
        there = may.there;
        live = may.live;
        outpoint = sym may.fine.outpoint;
        value = sym may.fine.value;
        pays = may.fine.script;
        items = stack;
        is = ap (λ x. stack ++ x ∷ []) (sym script_is);
        short = stack_short sigs strings i (length (branches choice)) fills.short
            (secrets_short s.hash strings (map (digest_of st.hashes) (reveals_of (core b))) may.fits);
        runs = subst (λ x. script_meaning s.hash (is_valid w.book dg) x stack ≡ true) (sym script_is)
            (witness_opens s.hash (is_valid w.book dg) st held.position choice i sigs strings setup.hash.size comp fills);
      }

  -- ---- the deposits

  abbrev put : List ℕ → List ℕ × Holding
  put name = (name, holding_or_none (look_up name (volatile st.advert.pre)))

  put_open : (name : List ℕ) → Is_in name (puts_of (core b)) → IsOpen s setup.hash.size g w kept held.contract st may.fine.compiled (tx_of made) (put name)
  put_open name k = record {
    known = may.known_puts name k;
    live = may.live_puts name k;
    signed = put_met s.hash st w.book held.position here choice i b may.fine.stands may.is_branch (more.endorsed n held st held_is may.fine.compiled) name k;
  }

  abbrev pub ns : List ℕ
  ns = map (λ name. number_of w held.contract ((put name).0)) (puts_of (core b))

  not_first : (names : List (List ℕ)) → ((name : List ℕ) → Is_in name names → Is_in (put name) (deposits st.advert.pre))
      → has_number n (map (λ name. number_of w held.contract ((put name).0)) names) ≡ false
  not_first [] h = refl
  not_first (x ∷ names) h =
      let a = at_bound s g w kept held.contract st may.fine.compiled x ((put x).1) (h x (inl refl)) in
      let e = number_is s setup.hash.size g w kept held.contract st may.fine.compiled x ((put x).1) a in
      or_from _ _ (ne_eqb (number_of w held.contract x) n (λ q.
      let o : (let y : Option Output = Some may.output in y) ≡ Some a.bound.output = sym may.there ∙ ap (slice_get w.outputs) (sym q ∙ e) ∙ a.bound.there in
      let f : may.output ≡ a.bound.output = cc in
      let k : Some may.held ≡ None = sym may.holds_it ∙ ap (λ (y : Output). y.holds) f ∙ a.bound.free in
      cc)) (not_first names (λ name j. h name (inr j)))

  pub taking_asked : Asked s w setup.hash.size kept.apart made (taking_witnesses s w st held i choice b (prepared s.hash made)) (n ∷ ns)
  taking_asked = record {
    ready = (first_ready, ready_all s setup.hash.size g w kept held.contract st may.fine.compiled (tx_of made) put (puts_of (core b)) put_open);
    distinct = and_from _ _ (not_from_false _ (not_first (puts_of (core b)) may.known_puts))
        (numbers_apart s setup.hash.size g w kept held.contract st may.fine.compiled put (puts_of (core b)) may.known_puts
        (names_same (puts_of (core b)) may.different_puts));
    some = omega arith;
    makes = may.makes;
    enough = may.enough;
    money = more.money;
    reached = may.reached;
    height = more.height;
  }
    where
      as_is : (names : List (List ℕ)) → map (λ name. (put name).0) names ≡ names
      as_is [] = refl
      as_is (x ∷ names) = ap (λ xs. x ∷ xs) (as_is names)

      names_same : (names : List (List ℕ)) → are_different names ≡ true → are_different (map (λ name. (put name).0) names) ≡ true
      names_same names h = ap are_different (as_is names) ∙ h

  abbrev pub tx : Tx
  tx = taking_transaction s w st held i choice b (prepared s.hash made)

  pub taking_accepts : verdict_in s w tx ≡ verdicts.Accepted (n ∷ ns) (bitcoin.numbers_from (length w.outputs) made.outputs)
  taking_accepts = accepts s w setup.hash.size kept.apart made (taking_witnesses s w st held i choice b (prepared s.hash made)) (n ∷ ns) taking_asked

  -- ---- it is the transaction of the branch

  contract_is : contract_at s held.contract ≡ Some st.advert
  contract_is = let ci = compiled_is s w held.contract st may.fine.compiled in ci.there ∙ ap (λ (y : Instance). Some y.advert) (sym ci.is)

  pub branch_is : position_branch s held i ≡ Some b
  branch_is = looked_branch s w held may.output may.fine i b may.is_branch

  pub taking_is : taking_of_position s w (live_position_at w n) i ≡ Some tx
  taking_is =
      let c : contract_in (contract_at s held.contract) held.position ≡ Some choice =
      ap (λ a. contract_in a held.position) contract_is ∙ term_choice s.hash st held.position here choice may.fine.stands in
      let d : prepared_at s.hash st path ≡ Some (prepared s.hash made) =
      ap (option_map (prepared s.hash)) (unsigned_of_branch s.hash st held.position here choice i b may.fine.stands may.is_branch) in
      let p : prepared_if_compiled s (compiled_instance s w held.contract) path ≡ Some (prepared s.hash made) =
      ap (λ o. prepared_if_compiled s o path) may.fine.compiled ∙ d in
      ap (λ h. taking_of_position s w h i) held_is ∙ (λ j. taking_of_parts s w held i (may.fine.compiled j) (c j) (branch_is j) (p j))
