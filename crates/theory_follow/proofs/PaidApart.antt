-- What a deal pays to a participant lies where none of its positions does.
use Rattle.std.proofs.Common.{◌≡◌, ℕ, ◌<◌, List, [], ◌∷◌, length, map, Bool, true, false, Option, Some, None}
use Rattle.std.proofs.Common.{refl, sym, ap, subst, ◌∙◌, inl, inr, cond, arith, lit<}
use Rattle.std.specs.Prelude.{slice_get, filter, ◌^◌}
use Rattle.std.specs.List.{AllByRecursion}
use Rattle.std.specs.Option.{option_map, option_map_or}
use Rattle.spec_data.specs.Lists.{is_among}
use Rattle.spec_data.specs.Messages.{noted_all}
use Rattle.spec_terms.specs.Paths as paths
use Rattle.spec_terms.specs.Paths.{Subterm, path_eq, subterm_from, at}
use Rattle.spec_terms.specs.PathSameness.{path_eq-Decides}
use Rattle.spec_terms.specs.Term as term
use Rattle.spec_terms.specs.Term.{Contract, branches, auth, after, put_reveal, withdraw, split}
use Rattle.spec_terms.specs.Core.{core}
use Rattle.spec_terms.specs.declared.path.PathStep.{PathStep}
use Rattle.spec_bitcoin.specs.declared.label.Label.TheVariants as labels
use Rattle.spec_bitcoin.specs.declared.script.Op.{Op}
use Rattle.spec_bitcoin.specs.declared.script.Op.TheVariants.{Push, Code}
use Rattle.spec_bitcoin.specs.Keys.{IsLabel, IsStep, pay_to, deposit_script}
use Rattle.spec_bitcoin.specs.Scripts.{script_ops}
use Rattle.spec_compiler.specs.Scripts.{output_ops, demands_of, demands_from}
use Rattle.spec_compiler.specs.Keyed.ByPath.{PathEnd, at_branch, end_at, position_at, unsigned_at}
use Rattle.spec_compiler.specs.Keyed.Compilation.{scripts}
use Rattle.spec_compiler.specs.Keyed.Instance.{Instance, people, branch_path, branch_label, branch_keys, deposit_key, position_script}
use Rattle.spec_compiler.specs.Keyed.Keys.{Keys, key_in, own_payee}
use Rattle.spec_compiler.specs.Keyed.Statements.{IsCompiled}
use Rattle.spec_compiler.specs.Keyed.Transactions.{Standing, party_script, payee_script}
use Rattle.spec_compiler.specs.declared.unsigned.Unsigned.{Unsigned}
use Rattle.spec_deal.specs.declared.deal.Needed.TheVariants as needs
use Rattle.spec_deal.specs.DealFile.{is_used}
use Rattle.spec_deal.specs.Hashed.{deal_strings}
use Rattle.spec_deal.specs.Needed.{deal_contract, path_labels, needed_labels}
use Rattle.spec_deal.specs.Used.{uses_key}
use Rattle.theory_calculus.specs.Members.{Is_in}
use Rattle.theory_calculus.proofs.Members.{in_left, in_right, filter_has, contains_from_in}
use Rattle.theory_script.specs.Keyed.Listed.{at_path}
use Rattle.theory_script.proofs.Scripts.Demanded.{IsWell, AllWell}
use Rattle.theory_script.proofs.Keyed.Opened.{is_checked, cost_is}
use Rattle.theory_script.proofs.Keyed.OutputScripts.{scripts_are_listed}
use Rattle.theory_script.proofs.Keyed.Stands.{some_same, IfAgrees, agrees_at, position_stands}
use Rattle.theory_world.proofs.Contracts.FirstKey.{first_key, output_first}
use Rattle.theory_world.proofs.Contracts.Keyed.{deposit_first}
use Rattle.theory_world.proofs.Contracts.Mentions.{branch_named, payee_mentioned}
use Rattle.theory_world.proofs.Hashed.{among_head, among_left}
use Rattle.theory_world.proofs.Labels.{path_fine}
use Rattle.theory_deal.specs.Circles.{NoneIsCircular}
use Rattle.theory_deal.specs.Used.{KeysAreUsed}
use Rattle.theory_chain.proofs.Deals.Whole.{Whole, in_map, among_in, script_heard, heard}
use Rattle.theory_chain.proofs.Deals.Positions.{in_flat, among_is, branch_there, transaction_there, path_among, compiled_at}

no_label : {contract : ℕ} {path : List PathStep} {party a : List ℕ} → labels.Branch contract path party ≡ labels.Deposit a → ⊥
no_label e = cc

paid_same : {a b : List ℕ} → pay_to a ≡ pay_to b → a ≡ b
paid_same e = cc

-- what a list has for a path is in it
at_path_in : {V : Type 0} (path : List PathStep) (es : List (List PathStep × V)) (v : V) → at_path path es ≡ Some v → Is_in (path, v) es
at_path_in path [] v h = cc
at_path_in path (e ∷ es) v h = by_test (path_eq e.0 path) refl h (at_path_in path es v)
  where
    by_test : (b : Bool) → path_eq e.0 path ≡ b → cond b (Some (e.1)) (at_path path es) ≡ Some v
        → (at_path path es ≡ Some v → Is_in (path, v) es) → Is_in (path, v) (e ∷ es)
    by_test true k same later = inl (λ i. (sym ((path_eq-Decides e.0 path).0 k) i, sym (some_same same) i))
    by_test false k same later = inr (later same)

module _ (hash : List ℕ → List ℕ) (keys : Keys) (s : Instance) (whole : Whole hash keys s) where
  -- ---- a position's script begins with the key of one of its branches

  -- the first key of the script is a participant's of its first branch
  record FirstKey (q : List PathStep) (script : List ℕ) : Type 0 where
    person : List ℕ
    among : is_among person (people s) ≡ true
    ops : List Op
    spells : script_ops script ≡ Some ops
    first : first_key ops ≡ Some (key_in hash keys (branch_label s.contract (branch_path q 0) person))

  keys_same : (c : term.Guarded) (ks : List (List ℕ)) (hashes : List (List ℕ × List ℕ)) → (demands_of c ks hashes).keys ≡ ks
  keys_same (put_reveal puts reveals test next) ks hashes = refl
  keys_same (auth party body) ks hashes = refl
  keys_same (after height body) ks hashes = refl
  keys_same (withdraw party) ks hashes = refl
  keys_same (split parts) ks hashes = refl

  module _ (q : List PathStep) (choice : Contract) (comp : IsCompiled s q choice) where
    abbrev keys_of : ℕ → List (List ℕ)
    keys_of i = branch_keys hash keys s (branch_path q i)

    abbrev first_keys : List (List ℕ) → List (List ℕ)
    first_keys ps = map (λ party. key_in hash keys (branch_label s.contract (branch_path q 0) party)) ps

    by_people : (ps : List (List ℕ)) → people s ≡ ps → (c : term.Guarded) (bs : List term.Guarded)
        → IsWell (demands_of (core c) (first_keys ps) s.hashes)
        → script_ops (position_script hash keys s q choice)
        ≡ Some (output_ops (demands_of (core c) (first_keys ps) s.hashes ∷ demands_from keys_of s.hashes 1 bs))
        → FirstKey q (position_script hash keys s q choice)
    by_people [] e c bs w sp = absurd (let k = ap length (keys_same (core c) [] s.hashes) in let l = w.some_key in omega (arith, k, l))
    by_people (p ∷ ps) e c bs w sp =
        let key = key_in hash keys (branch_label s.contract (branch_path q 0) p) in
        let len : length key ≡ 33 = whole.are_keys (branch_label s.contract (branch_path q 0) p) in
        record {
          person = p;
          among = subst (λ xs. is_among p xs ≡ true) (sym e) (among_head p ps);
          ops = output_ops (demands_of (core c) (key ∷ first_keys ps) s.hashes ∷ demands_from keys_of s.hashes 1 bs);
          spells = sp;
          first =
              output_first (demands_of (core c) (key ∷ first_keys ps) s.hashes) (demands_from keys_of s.hashes 1 bs) key (first_keys ps)
              (keys_same (core c) (key ∷ first_keys ps) s.hashes) len w.digest_sizes;
        }

    by_branches : (xs : List term.Guarded) → branches choice ≡ xs → 0 < length (demands_from keys_of s.hashes 0 xs)
        → AllWell (demands_from keys_of s.hashes 0 xs)
        → script_ops (position_script hash keys s q choice) ≡ Some (output_ops (demands_from keys_of s.hashes 0 xs))
        → FirstKey q (position_script hash keys s q choice) × (b : term.Guarded) × (slice_get (branches choice) 0 ≡ Some b)
    by_branches [] e some w sp = absurd (omega (arith, some))
    by_branches (c ∷ bs) e some w sp = (by_people (people s) refl c bs w.0 sp, c, ap (λ ys. slice_get ys 0) e)

    first_key_of : FirstKey q (position_script hash keys s q choice) × (b : term.Guarded) × (slice_get (branches choice) 0 ≡ Some b)
    first_key_of =
        let checked = is_checked hash keys s q choice whole.are_keys comp in
        by_branches (branches choice) refl checked.some_branch checked.well (cost_is hash keys s q choice whole.are_keys comp).spells

  -- ---- labels

  path_fits : (path : List PathStep) (p : PathEnd) → end_at hash keys s path ≡ Some p → AllByRecursion IsStep path
  path_fits path p e =
      by_term (subterm_from (paths.position s.advert.root) path) refl
      (subst (λ (o : Option PathEnd). IfAgrees hash keys s path o (subterm_from (paths.position s.advert.root) path)) e (agrees_at hash keys s path))
    where
      by_term : (o : Option Subterm) → subterm_from (paths.position s.advert.root) path ≡ o → IfAgrees hash keys s path (Some p) o
          → AllByRecursion IsStep path
      by_term None k agrees = absurd agrees
      by_term (Some t) k agrees = path_fine s.advert path t whole.checked k

  label_fits : (path : List PathStep) (p : PathEnd) (party : List ℕ) → end_at hash keys s path ≡ Some p
      → IsLabel (branch_label s.contract path party)
  label_fits path p party e = (subst (λ (n : ℕ). n < 2 ^ 32) (sym whole.number) (lit< tt), path_fits path p e)

  label_needed : (path : List PathStep) (d : Unsigned) (party : List ℕ) → unsigned_at hash keys s path ≡ Some d
      → is_among party (people s) ≡ true → Is_in (branch_label s.contract path party) (needed_labels s.advert)
  label_needed path d party there p =
      in_right (branch_label s.contract path party) (map (λ a. labels.Deposit a) (people s)) _
      (in_flat (path_labels s.advert) _ path (branch_label s.contract path party) (path_among hash keys s whole path d there)
      (subst (λ (n : ℕ). Is_in (branch_label n path party) (path_labels s.advert path)) (sym whole.number)
      (in_map (branch_label deal_contract path) (people s) party (among_is party (people s) p))))

  deposit_needed : (party : List ℕ) → is_among party (people s) ≡ true → Is_in (labels.Deposit party) (needed_labels s.advert)
  deposit_needed party p =
      in_left (labels.Deposit party) (map (λ a. labels.Deposit a) (people s)) _
      (in_map (λ (a : List ℕ). labels.Deposit a) (people s) party (among_is party (people s) p))

  -- ---- no position's script is that of a party's key

  no_key_script : (q : List PathStep) (here : Standing) (choice : Contract) → position_at hash keys s q ≡ Some (here, choice)
      → (party : List ℕ) → is_among party (people s) ≡ true → is_used keys s.advert (needs.Key (labels.Deposit party)) ≡ true
      → here.output.script ≡ party_script hash keys party → ⊥
  no_key_script q here choice e party there used same =
      let a = first_key_of q choice (compiled_at hash keys s whole q here choice e) in
      let person = a.0.person in
      let key = deposit_key hash keys party in
      let d = deposit_first key (whole.are_keys (labels.Deposit party)) in
      let script : position_script hash keys s q choice ≡ deposit_script key = sym (position_stands hash keys s q here choice e).script ∙ same in
      let ops : a.0.ops ≡ Push key ∷ (Code 172 ∷ []) = some_same (sym a.0.spells ∙ ap script_ops script ∙ d.0) in
      let key_is = some_same (sym a.0.first ∙ ap first_key ops ∙ d.1) in
      let ends = branch_there hash keys s q here choice 0 a.1 e a.2 in
      no_label (whole.keys_apart (branch_label s.contract (branch_path q 0) person) (labels.Deposit party)
      (label_fits (branch_path q 0) (at_branch here 0 a.1) person ends) tt
      (label_needed (branch_path q 0) _ person (transaction_there hash keys s (branch_path q 0) here 0 a.1 ends) a.0.among)
      (deposit_needed party there) refl used key_is)

  -- ---- nobody is paid where a position's script is

  pub script_there : (q : List PathStep) (here : Standing) (choice : Contract) → position_at hash keys s q ≡ Some (here, choice)
      → Is_in (q, here.output.script) (scripts hash keys s)
  script_there q here choice e =
      at_path_in q (scripts hash keys s) here.output.script
      (scripts_are_listed hash keys s q ∙ ap (option_map (λ (p : Standing × Contract). p.0.output.script)) e)

  pub paid_apart : NoneIsCircular → KeysAreUsed → (q : List PathStep) (here : Standing) (choice : Contract) → position_at hash keys s q ≡ Some (here, choice)
      → (path : List PathStep) (b : term.Guarded) (party : List ℕ) → at s.advert.root path ≡ Some b → core b ≡ withdraw party
      → payee_script hash keys party ≡ pay_to (hash here.output.script) → ⊥
  paid_apart circles uses q here choice e path b party stands pays same = by_own (own_payee keys party) refl same
    where
      there : is_among party (people s) ≡ true
      there = branch_named s.advert path b party stands (payee_mentioned b party pays)

      by_own : (o : Option (List ℕ)) → own_payee keys party ≡ o
          → option_map_or (λ own. own) o (pay_to (hash (party_script hash keys party))) ≡ pay_to (hash here.output.script) → ⊥
      by_own (Some script) k f =
          ((circles hash keys s).0 whole.apart.unmade).unpaid party script (contains_from_in (people s) party (among_is party (people s) there)) k
          (q, here.output.script) (contains_from_in (scripts hash keys s) (q, here.output.script) (script_there q here choice e)) (sym f)
      by_own None k f =
          let used : uses_key keys s.advert party ≡ true =
          (uses.deposits keys s.advert party).1 (inr (record { path = path; taken = b; stands = stands; pays = pays; bare = k })) in
          let own : is_among (party_script hash keys party) (noted_all [] (deal_strings hash keys s)) ≡ true =
          heard hash keys s whole (party_script hash keys party)
          (among_left (party_script hash keys party) (map (party_script hash keys) (filter (uses_key keys s.advert) (people s))) _
          (among_in (party_script hash keys party) (map (party_script hash keys) (filter (uses_key keys s.advert) (people s)))
          (in_map (party_script hash keys) (filter (uses_key keys s.advert) (people s)) party
          (filter_has (uses_key keys s.advert) (people s) party (among_is party (people s) there) used)))) in
          let other : is_among here.output.script (noted_all [] (deal_strings hash keys s)) ≡ true =
          heard hash keys s whole here.output.script (script_heard hash keys s (q, here.output.script) (script_there q here choice e)) in
          no_key_script q here choice e party there used
          (sym (whole.clear.one (party_script hash keys party) here.output.script own other (paid_same f)))
