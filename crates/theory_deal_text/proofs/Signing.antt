-- The names of a deal's transactions, those who sign them and the deposits that wallets bring to them can be shown.
use Rattle.std.proofs.Common.{◌≡◌, ℕ, zero, suc, List, [], ◌∷◌, map, true, Option, Some, None, refl, sym, ap, subst, ◌∙◌}
use Rattle.std.specs.Prelude.{slice_get, ◌^◌, ◌<◌}
use Rattle.std.specs.List.{list_all, AllByRecursion}
use Rattle.std.specs.Option.{option_map, option_map_or, option_and_then}
use Rattle.std.proofs.lemmas.Bool.{and_parts}
use Rattle.spec_data.specs.Lists.{is_among}
use Rattle.spec_terms.specs.Term as term
use Rattle.spec_terms.specs.Advert.{Advert}
use Rattle.spec_terms.specs.Core.{core, puts_of}
use Rattle.spec_terms.specs.Faults.{IsWellFormed}
use Rattle.spec_terms.specs.Parties.{participants}
use Rattle.spec_terms.specs.Paths as paths
use Rattle.spec_terms.specs.Paths.{Subterm, as_branch, subterm_from, at}
use Rattle.spec_terms.specs.Precondition.{Holding, deposits, persistent, volatile, names_of}
use Rattle.spec_terms.specs.Readable.{is_name}
use Rattle.spec_terms.specs.declared.path.PathStep.{PathStep}
use Rattle.spec_bitcoin.specs.declared.label.Label.{Label}
use Rattle.spec_bitcoin.specs.Keys.{IsStep}
use Rattle.spec_compiler.specs.Keyed.Endorsements.{put_owner}
use Rattle.spec_compiler.specs.declared.unsigned.Unsigned.{Unsigned}
use Rattle.spec_compiler.specs.Keyed.Keys.{Keys, own_script}
use Rattle.spec_compiler.specs.Keyed.Instance.{Instance, branch_label}
use Rattle.spec_compiler.specs.Keyed.Transactions.{Standing, holding_or_none, branch_unsigned}
use Rattle.spec_compiler.specs.Keyed.ByPath.{PathEnd, at_position, at_branch, end_at, as_unsigned}
use Rattle.spec_text.specs.Words.{◌>>=◌}
use Rattle.spec_tool.specs.declared.which.Which.{Which}
use Rattle.spec_tool.specs.declared.which.Which.TheVariants as names
use Rattle.spec_tool.specs.Keyed.Listed.{Listed, deposit_signer, branch_signers, path_listed, initial_listed, listed_at}
use Rattle.spec_deal.specs.declared.transaction.Wallet.{Wallet}
use Rattle.spec_deal.specs.Wallets.{puts_at, input_deposit, wallet_of, input_wallet}
use Rattle.theory_calculus.proofs.Names.{volatile_named}
use Rattle.theory_script.proofs.Checked.{puts_known}
use Rattle.theory_script.proofs.Keyed.Stands.{some_same, IfAgrees, agrees_at}
use Rattle.theory_deal.proofs.Branches.{branch_found}
use Rattle.theory_play_text.specs.Printable.{IsNamed}
use Rattle.theory_play_text.proofs.LegalSteps.{all_by_in, by_get}
use Rattle.theory_play_text.proofs.Named.{AllNamed, IsHeld, deposits_named, persistent_named, has_names, branch_fine}
use Rattle.theory_plan_text.specs.Audit.{IsShownLabel}
use Rattle.theory_plan_text.specs.PlanLines.{IsWhich}

abbrev pub AreShown : List (List Label) → Type 0
AreShown signers = AllByRecursion (λ (labels : List Label). AllByRecursion IsShownLabel labels) signers

-- the deposit that a wallet brings has a name
abbrev pub IfNamed : Option Wallet → Type 0
IfNamed None = Unit {0}
IfNamed (Some w) = IsNamed w.deposit

pub record IsSigned (keys : Keys) (advert : Advert) (l : Listed) : Type 0 where
  pub which : IsWhich l.which
  pub signers : AreShown l.signers
  pub wallets : (k : ℕ) → IfNamed (input_wallet keys advert l.which k)

-- ---- wallets

brought : (keys : Keys) (o : Option (List ℕ)) → ((name : List ℕ) → o ≡ Some name → IsNamed name) → IfNamed (o >>= wallet_of keys)
brought keys None f = tt
brought keys (Some name) f = by_script (own_script keys name)
  where
    by_script : (o : Option (List ℕ)) → IfNamed (option_map (λ script. record { deposit = name; script = script }) o)
    by_script None = tt
    by_script (Some script) = f name refl

owners_shown : (ds : List (List ℕ × Holding)) → AllByRecursion IsHeld ds → AreShown (map (λ d. deposit_signer (d.1).owner) ds)
owners_shown [] h = tt
owners_shown (d ∷ ds) h = (((h.0).1, tt), owners_shown ds h.1)

held_names : (ds : List (List ℕ × Holding)) → AllByRecursion IsHeld ds → AllByRecursion IsNamed (names_of ds)
held_names [] h = tt
held_names (d ∷ ds) h = ((h.0).0, held_names ds h.1)

module _ (a : Advert) (well : IsWellFormed a) where
  -- ---- what a branch puts

  put_held : (name : List ℕ) → is_among name (names_of (volatile a.pre)) ≡ true → IsNamed name × IsNamed (put_owner a name)
  put_held name h =
      let v = volatile_named a.pre name h in
      let held = all_by_in IsHeld (deposits a.pre) (deposits_named a.pre (has_names a well).pre) (name, v.0) v.2 in
      (held.0, subst (λ (o : Option Holding). IsNamed (holding_or_none o).owner) (sym v.1) held.1)

  puts_shown : (puts : List (List ℕ)) → list_all (λ x. is_among x (names_of (volatile a.pre))) puts ≡ true
      → AreShown (map (λ name. deposit_signer (put_owner a name)) puts) × AllByRecursion IsNamed puts
  puts_shown [] h = (tt, tt)
  puts_shown (x ∷ xs) h =
      let p = and_parts (is_among x (names_of (volatile a.pre))) (list_all (λ y. is_among y (names_of (volatile a.pre))) xs) h in
      let one = put_held x p.0 in
      let later = puts_shown xs p.1 in
      (((one.1, tt), later.0), (one.0, later.1))

  people_shown : (contract : ℕ) (path : List PathStep) → contract < 2 ^ 32 → AllByRecursion IsStep path → (xs : List (List ℕ)) → AllNamed xs
      → AllByRecursion IsShownLabel (map (branch_label contract path) xs)
  people_shown contract path l steps [] h = tt
  people_shown contract path l steps (x ∷ xs) h =
      let p = and_parts (is_name x) (list_all is_name xs) h in ((l, steps, p.0), people_shown contract path l steps xs p.1)

module _ (hash : List ℕ → List ℕ) (keys : Keys) (s : Instance) (well : IsWellFormed s.advert) (number : s.contract < 2 ^ 32) where
  abbrev IsFine : Listed → Type 0
  IsFine l = IsSigned keys s.advert l

  initial_signed : IsFine (initial_listed hash keys s)
  initial_signed =
      let held = persistent_named s.advert.pre (has_names s.advert well).pre in
      record {
        which = tt;
        signers = owners_shown (persistent s.advert.pre) held;
        wallets = λ k. brought keys (input_deposit s.advert names.Init k)
            (λ name e. by_get IsNamed (names_of (persistent s.advert.pre)) k name (held_names (persistent s.advert.pre) held) e);
      }

  -- of a branch at a path
  module _ (path : List PathStep) (here : Standing) (i : ℕ) (b : term.Guarded)
      (ends : end_at hash keys s path ≡ Some (at_branch here i b)) (stands : at s.advert.root path ≡ Some b) where
    steps : AllByRecursion IsStep path
    steps = (branch_fine s.advert well path b stands).steps

    puts : AreShown (map (λ name. deposit_signer (put_owner s.advert name)) (puts_of (core b))) × AllByRecursion IsNamed (puts_of (core b))
    puts =
        let found = branch_found hash keys s path here i b ends in
        puts_shown s.advert well (puts_of (core b))
        (puts_known s.advert well here.position found.choice found.stands.branches i b found.is_branch)

    put_named : (k : ℕ) (name : List ℕ) → input_deposit s.advert (names.At path) k ≡ Some name → IsNamed name
    put_named zero name e = cc
    put_named (suc k) name e =
        by_get IsNamed (puts_of (core b)) k name (puts).1
        (sym (ap (λ (o : Option term.Guarded). slice_get (puts_at o) k) stands) ∙ e)

    path_signed : (d : Unsigned) → IsFine (path_listed s path d)
    path_signed d =
        let all : AreShown (branch_signers s.contract s.advert path b) =
        (people_shown s.advert well s.contract path number steps (participants s.advert) (has_names s.advert well).people, (puts).0) in
        record {
          which = steps;
          signers =
              subst (λ (o : Option term.Guarded). AreShown (option_map_or (branch_signers s.contract s.advert path) o [])) (sym stands) all;
          wallets = λ k. brought keys (input_deposit s.advert (names.At path) k) (put_named k);
        }

  by_ends : (path : List PathStep) (o : Option PathEnd) (q : Option Subterm) → end_at hash keys s path ≡ o
      → subterm_from (paths.position s.advert.root) path ≡ q → IfAgrees hash keys s path o q → (l : Listed)
      → option_map (path_listed s path) (option_and_then (as_unsigned hash keys s) o) ≡ Some l → IsFine l
  by_ends path None q ends is agrees l e = cc
  by_ends path (Some (at_position here choice)) q ends is agrees l e = cc
  by_ends path (Some (at_branch here i d)) None ends is agrees l e = absurd agrees
  by_ends path (Some (at_branch here i d)) (Some (paths.position c)) ends is agrees l e = absurd agrees
  by_ends path (Some (at_branch here i d)) (Some (paths.at_branch b)) ends is agrees l e =
      let term_there = is ∙ ap (λ (x : term.Guarded). Some (paths.at_branch x)) (sym agrees.1) in
      subst IsFine (some_same e)
      (path_signed path here i d ends (ap (option_and_then as_branch) term_there) (branch_unsigned hash keys s here i d))

  pub signed_at : (which : Which) (l : Listed) → listed_at hash keys s which ≡ Some l → IsFine l
  signed_at names.Init l e = subst IsFine (some_same e) initial_signed
  signed_at (names.At path) l e =
      by_ends path (end_at hash keys s path) (subterm_from (paths.position s.advert.root) path) refl refl (agrees_at hash keys s path) l e
