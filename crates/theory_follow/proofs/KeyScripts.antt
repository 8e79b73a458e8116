-- Inputs that no wallet signs spend scripts that were hashed, and that are true if every signature is good where they are by some oracle.
use Rattle.std.proofs.Common.{◌≡◌, ℕ, zero, suc, List, [], ◌∷◌, ◌++◌, map, Bool, true, Option, Some, None, refl, sym, ap, subst, ◌∙◌, inl, inr}
use Rattle.std.specs.Prelude.{slice_get, filter, reverse}
use Rattle.std.specs.List.{list_all}
use Rattle.std.specs.Option.{option_map_or, option_map}
use Rattle.std.proofs.lemmas.Bool.{and_parts}
use Rattle.spec_data.specs.Lists.{look_up, is_among}
use Rattle.spec_data.specs.Messages.{noted_all}
use Rattle.spec_terms.specs.Term as term
use Rattle.spec_terms.specs.Term.{Contract}
use Rattle.spec_terms.specs.Core.{core, puts_of}
use Rattle.spec_terms.specs.Parties.{choice_mentions}
use Rattle.spec_terms.specs.Paths.{at}
use Rattle.spec_terms.specs.Precondition.{Holding, deposits, persistent, volatile, names_of, party_of}
use Rattle.spec_terms.specs.declared.path.PathStep.{PathStep}
use Rattle.spec_terms.specs.declared.pre.Pre.{Pre}
use Rattle.spec_terms.specs.declared.pre.Pre.TheVariants.{Persistent, Volatile, Secret}
use Rattle.spec_bitcoin.specs.declared.label.Label.TheVariants as labels
use Rattle.spec_bitcoin.specs.Meaning.{script_meaning}
use Rattle.spec_compiler.specs.declared.unsigned.Spent.{Spent}
use Rattle.spec_compiler.specs.declared.unsigned.Unsigned.{Unsigned}
use Rattle.spec_compiler.specs.Keyed.ByPath.{position_at}
use Rattle.spec_compiler.specs.Keyed.Instance.{Instance, people, deposit_key, branch_keys, branch_path}
use Rattle.spec_compiler.specs.Keyed.Keys.{Keys, own_script}
use Rattle.spec_compiler.specs.Keyed.OwnScripts.{code_of}
use Rattle.spec_compiler.specs.Keyed.Statements.{are_valid, is_short}
use Rattle.spec_compiler.specs.Keyed.Transactions.{Standing, party_script, put_deposits, deposit, holding_or_none}
use Rattle.spec_tool.specs.declared.which.Which.{Which}
use Rattle.spec_tool.specs.declared.which.Which.TheVariants as names
use Rattle.spec_tool.specs.Keyed.Listed.{Listed, listed_at}
use Rattle.spec_text.specs.Words.{◌>>=◌}
use Rattle.spec_deal.specs.Hashed.{deal_strings}
use Rattle.spec_deal.specs.Used.{uses_key}
use Rattle.spec_deal.specs.Wallets.{input_wallet, wallet_of, puts_at}
use Rattle.spec_chain.specs.Refusals.{takes_all}
use Rattle.theory_calculus.specs.Members.{Is_in}
use Rattle.theory_calculus.proofs.Members.{filter_has, contains_from_in, all_in}
use Rattle.theory_calculus.proofs.Names.{persistent_deposit, volatile_named}
use Rattle.theory_script.proofs.Checked.{puts_known}
use Rattle.theory_script.proofs.Keyed.Opened.{opens_exactly}
use Rattle.theory_script.proofs.Keyed.Stands.{some_same, position_stands}
use Rattle.theory_script.proofs.Scripts.Deposits.{deposit_meaning}
use Rattle.theory_world.proofs.Contracts.Mentions.{added}
use Rattle.theory_world.proofs.Hashed.{among_head, among_tail, among_left}
use Rattle.theory_deal.proofs.OfKeys.{no_own}
use Rattle.theory_deal.specs.Used.{KeysAreUsed}
use Rattle.theory_chain.proofs.Deals.Positions.{among_is, branch_at_path, compiled_at}
use Rattle.theory_chain.proofs.Deals.Transactions.{OfBranch, of_branch, named_path}
use Rattle.theory_chain.proofs.Deals.Whole.{Whole, in_map, from_stands, among_in, script_heard, heard}
use Rattle.theory_follow.proofs.PaidApart.{script_there}

-- what stands at a number of a list that is mapped
mapped_at : {X Y : Type 0} (f : X → Y) (xs : List X) (k : ℕ) (y : Y) → slice_get (map f xs) k ≡ Some y
    → (x : X) × (slice_get xs k ≡ Some x) × (y ≡ f x)
mapped_at f [] k y e = cc
mapped_at f (x ∷ xs) zero y e = (x, refl, sym (some_same e))
mapped_at f (x ∷ xs) (suc k) y e = mapped_at f xs k y e

-- who owns a deposit is mentioned
owner_mentioned : (pre : List Pre) (d : List ℕ × Holding) → Is_in d (deposits pre) → is_among (d.1).owner (map party_of pre) ≡ true
owner_mentioned [] d i = absurd i
owner_mentioned (Persistent party value name ∷ es) d (inl same) =
    subst (λ (x : List ℕ × Holding). is_among (x.1).owner (party ∷ map party_of es) ≡ true) (sym same) (among_head party (map party_of es))
owner_mentioned (Persistent party value name ∷ es) d (inr i) = among_tail (d.1).owner party (map party_of es) (owner_mentioned es d i)
owner_mentioned (Volatile party value name ∷ es) d (inl same) =
    subst (λ (x : List ℕ × Holding). is_among (x.1).owner (party ∷ map party_of es) ≡ true) (sym same) (among_head party (map party_of es))
owner_mentioned (Volatile party value name ∷ es) d (inr i) = among_tail (d.1).owner party (map party_of es) (owner_mentioned es d i)
owner_mentioned (Secret party name ∷ es) d i = among_tail (d.1).owner party (map party_of es) (owner_mentioned es d i)

-- signatures that are good by some oracle are good where every one is
all_good : (valid : List ℕ → List ℕ → Bool) (signatures ks : List (List ℕ)) → are_valid valid signatures ks ≡ true
    → are_valid takes_all signatures ks ≡ true
all_good valid [] [] e = refl
all_good valid [] (k ∷ ks) e = cc
all_good valid (x ∷ xs) [] e = cc
all_good valid (x ∷ xs) (k ∷ ks) e = all_good valid xs ks (and_parts (valid x k) (are_valid valid xs ks) e).1

-- the name of what stands there
name_at : {V : Type 0} (ds : List (List ℕ × V)) (k : ℕ) (d : List ℕ × V) → slice_get ds k ≡ Some d → slice_get (names_of ds) k ≡ Some (d.0)
name_at [] k d e = cc
name_at (x ∷ ds) zero d e = ap (λ (o : Option (List ℕ × _)). option_map (λ (p : List ℕ × _). p.0) o) e
name_at (x ∷ ds) (suc k) d e = name_at ds k d e

module _ (uses : KeysAreUsed) (hash : List ℕ → List ℕ) (keys : Keys) (s : Instance) (whole : Whole hash keys s) where
  -- a script that was hashed to compile the deal, and is true if every signature is good where it is by some oracle
  pub record IsKeyScript (script : List ℕ) : Type 0 where
    pub hashed : is_among script (noted_all [] (deal_strings hash keys s)) ≡ true
    pub good : (valid : List ℕ → List ℕ → Bool) (items : List (List ℕ)) → list_all is_short items ≡ true
        → script_meaning hash valid script items ≡ true → script_meaning hash takes_all script items ≡ true

  position_script_is : (q : List PathStep) (here : Standing) (choice : Contract) → position_at hash keys s q ≡ Some (here, choice)
      → IsKeyScript here.output.script
  position_script_is q here choice e =
      let script = (position_stands hash keys s q here choice e).script in
      let comp = compiled_at hash keys s whole q here choice e in
      record {
        hashed =
            heard hash keys s whole here.output.script
            (script_heard hash keys s (q, here.output.script) (script_there hash keys s whole q here choice e));
        good = λ valid items short h.
            let o = (opens_exactly hash keys s q valid choice items whole.are_keys comp short).true_opens
            (ap (λ (x : List ℕ). script_meaning hash valid x items) (sym script) ∙ h) in
            ap (λ (x : List ℕ). script_meaning hash takes_all x items) script
            ∙ (opens_exactly hash keys s q takes_all choice items whole.are_keys comp short).opens_true (record {
              i = o.i;
              b = o.b;
              is_branch = o.is_branch;
              selectors = o.selectors;
              strings = o.strings;
              signatures = o.signatures;
              is_stack = o.is_stack;
              selects = o.selects;
              fits = o.fits;
              predicate = o.predicate;
              signed = all_good valid o.signatures (branch_keys hash keys s (branch_path q o.i)) o.signed;
            });
      }

  owner_in : (d : List ℕ × Holding) → Is_in d (deposits s.advert.pre) → is_among (d.1).owner (people s) ≡ true
  owner_in d i =
      added (map party_of s.advert.pre ++ choice_mentions s.advert.root) [] (d.1).owner
      (among_left (d.1).owner (map party_of s.advert.pre) (choice_mentions s.advert.root) (owner_mentioned s.advert.pre d i))

  party_script_is : (d : List ℕ × Holding) → Is_in d (deposits s.advert.pre) → own_script keys (d.0) ≡ None
      → IsKeyScript (party_script hash keys (d.1).owner)
  party_script_is d i bare =
      let party = (d.1).owner in
      let there = owner_in d i in
      let used : uses_key keys s.advert party ≡ true = (uses.deposits keys s.advert party).1
      (inl (record { name = d.0; holding = d.1; stands = contains_from_in (deposits s.advert.pre) d i; owned = refl; bare = bare })) in
      record {
        hashed =
            heard hash keys s whole (party_script hash keys party)
            (among_left (party_script hash keys party) (map (party_script hash keys) (filter (uses_key keys s.advert) (people s))) _
            (among_in (party_script hash keys party) (map (party_script hash keys) (filter (uses_key keys s.advert) (people s)))
            (in_map (party_script hash keys) (filter (uses_key keys s.advert) (people s)) party
            (filter_has (uses_key keys s.advert) (people s) party (among_is party (people s) there) used))));
        good = λ valid items short h.
            let key = deposit_key hash keys party in
            let len = whole.are_keys (labels.Deposit party) in
            deposit_meaning hash takes_all key items len short
            ∙ all_good valid (reverse items) (key ∷ []) (sym (deposit_meaning hash valid key items len short) ∙ h);
      }

  deposit_is : (d : List ℕ × Holding) → Is_in d (deposits s.advert.pre) → own_script keys (d.0) ≡ None
      → IsKeyScript (deposit hash keys s (d.0) (d.1)).script
  deposit_is d i bare =
      subst IsKeyScript
      (ap (λ (o : Option (List ℕ)). option_map_or code_of o (party_script hash keys (d.1).owner)) (sym bare)) (party_script_is d i bare)

  none_own : (name : List ℕ) (o : Option (List ℕ)) → o ≡ Some name → (o >>= wallet_of keys) ≡ None → own_script keys name ≡ None
  none_own name o q none = no_own keys name (ap (λ (x : Option (List ℕ)). x >>= wallet_of keys) (sym q) ∙ none)

  initial_is : (k : ℕ) (x : Spent) → slice_get (map (λ (d : List ℕ × Holding). deposit hash keys s d.0 d.1) (persistent s.advert.pre)) k ≡ Some x
      → input_wallet keys s.advert names.Init k ≡ None → IsKeyScript x.script
  initial_is k x e bare =
      let r = mapped_at (λ (d : List ℕ × Holding). deposit hash keys s d.0 d.1) (persistent s.advert.pre) k x e in
      let own = none_own (r.0.0) (slice_get (names_of (persistent s.advert.pre)) k) (name_at (persistent s.advert.pre) k r.0 r.1) bare in
      subst (λ (y : Spent). IsKeyScript y.script) (sym r.2)
      (deposit_is r.0 (persistent_deposit s.advert.pre r.0 (from_stands (persistent s.advert.pre) r.0 k r.1)) own)

  branch_is : (path : List PathStep) (d : Unsigned) (of : OfBranch hash keys s path d) (k : ℕ) (x : Spent)
      → slice_get (of.here.output ∷ put_deposits hash keys s (puts_of (core of.b))) k ≡ Some x
      → input_wallet keys s.advert (names.At path) k ≡ None → IsKeyScript x.script
  branch_is path d of zero x e bare =
      subst (λ (y : Spent). IsKeyScript y.script) (some_same e) (position_script_is of.here.position of.here of.choice of.stands)
  branch_is path d of (suc k) x e bare =
      let f : List ℕ → Spent = λ name. deposit hash keys s name (holding_or_none (look_up name (volatile s.advert.pre))) in
      let r = mapped_at f (puts_of (core of.b)) k x e in
      let known = puts_known s.advert whole.checked of.here.position of.choice
      (position_stands hash keys s of.here.position of.here of.choice of.stands).branches of.i of.b of.there in
      let put = volatile_named s.advert.pre r.0
      (all_in (λ n. is_among n (names_of (volatile s.advert.pre))) (puts_of (core of.b)) r.0 known (from_stands (puts_of (core of.b)) r.0 k r.1)) in
      let stands = ap (λ (o : Option term.Guarded). slice_get (puts_at o) k) (branch_at_path hash keys s path of.here of.i of.b of.ends) ∙ r.1 in
      let own = none_own r.0 (slice_get (puts_at (at s.advert.root path)) k) stands bare in
      subst (λ (y : Spent). IsKeyScript y.script)
      (ap (λ (o : Option Holding). deposit hash keys s r.0 (holding_or_none o)) (sym put.1) ∙ sym r.2)
      (deposit_is (r.0, put.0) put.2 own)

  -- what an input without a wallet spends has such a script
  pub key_script : (which : Which) (l : Listed) (k : ℕ) (x : Spent) → listed_at hash keys s which ≡ Some l → slice_get l.pending.spends k ≡ Some x
      → input_wallet keys s.advert which k ≡ None → IsKeyScript x.script
  key_script names.Init l k x named e bare =
      initial_is k x (ap (λ (y : Listed). slice_get y.pending.spends k) (some_same named) ∙ e) bare
  key_script (names.At path) l k x named e bare =
      let n = named_path hash keys s path l named in
      let of = of_branch hash keys s path n.0 n.1 in
      branch_is path n.0 of k x
      (ap (λ (d : Unsigned). slice_get d.spends k) (sym of.is) ∙ ap (λ (y : Listed). slice_get y.pending.spends k) (sym n.2) ∙ e) bare
