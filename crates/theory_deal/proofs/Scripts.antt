-- The script of an input asks for the key of each signature that is needed of it.
use Rattle.std.proofs.Common.{◌≡◌, ℕ, zero, suc, List, [], ◌∷◌, Option, Some, None, refl, sym, ap, subst, ◌∙◌}
use Rattle.std.specs.Prelude.{slice_get}
use Rattle.std.specs.Option.{option_map, option_and_then}
use Rattle.spec_data.specs.Lists.{look_up}
use Rattle.spec_terms.specs.Term as term
use Rattle.spec_terms.specs.Core.{core, puts_of}
use Rattle.spec_terms.specs.Paths as paths
use Rattle.spec_terms.specs.Paths.{Subterm, as_branch, subterm_from, at}
use Rattle.spec_terms.specs.Precondition.{Holding, persistent, volatile, names_of}
use Rattle.spec_terms.specs.declared.path.PathStep.{PathStep}
use Rattle.spec_bitcoin.specs.declared.label.Label.{Label}
use Rattle.spec_bitcoin.specs.declared.label.Label.TheVariants as labels
use Rattle.spec_bitcoin.specs.Keys.{deposit_script}
use Rattle.spec_compiler.specs.Keyed.Keys.{Keys, key_in}
use Rattle.spec_compiler.specs.Keyed.Instance.{Instance, branch_path}
use Rattle.spec_compiler.specs.declared.unsigned.Spent.{Spent}
use Rattle.spec_compiler.specs.declared.unsigned.Unsigned.{Unsigned}
use Rattle.spec_compiler.specs.Keyed.Transactions.{Standing, deposit, holding_or_none, branch_unsigned}
use Rattle.spec_compiler.specs.Keyed.ByPath as by_path
use Rattle.spec_compiler.specs.Keyed.ByPath.{PathEnd, end_at, as_unsigned, unsigned_at}
use Rattle.spec_compiler.specs.Keyed.Endorsements.{put_owner}
use Rattle.spec_tool.specs.declared.which.Which.{Which}
use Rattle.spec_tool.specs.declared.which.Which.TheVariants as names
use Rattle.spec_tool.specs.Keyed.Listed.{Listed, path_listed, listed_at}
use Rattle.spec_text.specs.Words.{◌>>=◌}
use Rattle.spec_deal.specs.declared.finish.Verb.{Verb}
use Rattle.spec_deal.specs.Wallets.{puts_at, wallet_of, input_wallet}
use Rattle.theory_script.proofs.Keyed.Stands.{some_same, IfAgrees, agrees_at}
use Rattle.theory_deal.proofs.Branches.{branch_found}
use Rattle.theory_deal.proofs.OfKeys.{own_of_key, no_own, no_wallet}
use Rattle.theory_deal.proofs.Signing.{asks_exactly, map_at}
use Rattle.theory_deal.specs.Scripts.{IsOfPosition, AsksForKey, ScriptsAsk}
use Rattle.theory_deal.specs.Signing.{BranchBy, Signs}

-- what stands at a number of names
pub name_at : {V : Type 0} (ds : List (List ℕ × V)) (k : ℕ) (d : List ℕ × V) → slice_get ds k ≡ Some d → slice_get (names_of ds) k ≡ Some d.0
name_at [] k d e = cc
name_at (x ∷ ds) zero d e = ap (λ (o : Option (List ℕ × _)). option_map (λ (p : List ℕ × _). p.0) o) e
name_at (x ∷ ds) (suc k) d e = name_at ds k d e

module _ (hash : List ℕ → List ℕ) (keys : Keys) (s : Instance) where
  -- by the key of an owner
  owner_asks : (script : List ℕ) (label : Label) (party : List ℕ) → label ≡ labels.Deposit party
      → script ≡ deposit_script (key_in hash keys (labels.Deposit party)) → AsksForKey hash keys s script label
  owner_asks script label party e h = subst (AsksForKey hash keys s script) (sym e) h

  initial_asks : (d : Unsigned) (k : ℕ) (spent : Spent) (label : Label) (h : List ℕ × Holding)
      → option_map (λ (l : Listed). l.pending) (listed_at hash keys s names.Init) ≡ Some d
      → slice_get d.spends k ≡ Some spent → slice_get (persistent s.advert.pre) k ≡ Some h
      → label ≡ labels.Deposit (h.1).owner → input_wallet keys s.advert names.Init k ≡ None → AsksForKey hash keys s spent.script label
  initial_asks d k spent label h there spends stands e none =
      let r = map_at (λ (x : List ℕ × Holding). deposit hash keys s (x.0) (x.1)) (persistent s.advert.pre) k spent
      (subst (λ (x : Unsigned). slice_get x.spends k ≡ Some spent) (sym (some_same there)) spends) in
      let same : r.0 ≡ h = some_same (sym r.1 ∙ stands) in
      owner_asks spent.script label (h.1).owner e
      (ap (λ (x : Spent). x.script) r.2
      ∙ own_of_key hash keys s (r.0).0 (r.0).1
      (no_own keys (r.0).0
      (ap (λ (o : Option (List ℕ)). o >>= wallet_of keys) (sym (name_at (persistent s.advert.pre) k (r.0) r.1)) ∙ none))
      ∙ ap (λ (x : List ℕ × Holding). deposit_script (key_in hash keys (labels.Deposit (x.1).owner))) same)

  -- ---- a path's

  -- the branch that stands at the end of a path, as the term has it
  pub record Stands (path : List PathStep) (b : term.Guarded) (d : Unsigned) : Type 0 where
    pub here : Standing
    pub i : ℕ
    pub c : term.Guarded
    pub stands : end_at hash keys s path ≡ Some (by_path.at_branch here i c)
    pub is_path : branch_path here.position i ≡ path
    pub same : c ≡ b
    pub made : d ≡ branch_unsigned hash keys s here i c

  pub stands_there : (path : List PathStep) (b : term.Guarded) (d : Unsigned) → unsigned_at hash keys s path ≡ Some d
      → at s.advert.root path ≡ Some b → Stands path b d
  stands_there path b d made there =
      by_end (end_at hash keys s path) (subterm_from (paths.position s.advert.root) path) refl (agrees_at hash keys s path) made there
    where
      by_end : (o : Option PathEnd) (q : Option Subterm) → end_at hash keys s path ≡ o → IfAgrees hash keys s path o q
          → option_and_then (as_unsigned hash keys s) o ≡ Some d → option_and_then as_branch q ≡ Some b → Stands path b d
      by_end None q e agrees m t = cc
      by_end (Some (by_path.at_position here choice)) q e agrees m t = cc
      by_end (Some (by_path.at_branch here i c)) None e agrees m t = absurd agrees
      by_end (Some (by_path.at_branch here i c)) (Some (paths.position x)) e agrees m t = absurd agrees
      by_end (Some (by_path.at_branch here i c)) (Some (paths.at_branch x)) e agrees m t = record {
        here = here;
        i = i;
        c = c;
        stands = e;
        is_path = agrees.0;
        same = agrees.1 ∙ some_same t;
        made = sym (some_same m);
      }

  position_asks : (path : List PathStep) (b : term.Guarded) (d : Unsigned) (spent : Spent) → Stands path b d
      → slice_get d.spends 0 ≡ Some spent → IsOfPosition hash keys s path spent.script
  position_asks path b d spent x spends =
      let found = branch_found hash keys s path x.here x.i x.c x.stands in
      let first : Some x.here.output ≡ Some spent = subst (λ (z : Unsigned). slice_get z.spends 0 ≡ Some spent) x.made spends in
      record {
        position = x.here.position;
        contract = found.choice;
        i = x.i;
        b = x.c;
        is_position = found.stands.branches;
        is_branch = found.is_branch;
        is_path = x.is_path;
        is_script = ap (λ (z : Spent). z.script) (sym (some_same first)) ∙ found.stands.script;
      }

  put_asks : (path : List PathStep) (b : term.Guarded) (d : Unsigned) (k : ℕ) (spent : Spent) (label : Label) (name : List ℕ)
      → Stands path b d → slice_get d.spends (suc k) ≡ Some spent → slice_get (puts_of (core b)) k ≡ Some name
      → label ≡ labels.Deposit (put_owner s.advert name) → at s.advert.root path ≡ Some b
      → input_wallet keys s.advert (names.At path) (suc k) ≡ None → AsksForKey hash keys s spent.script label
  put_asks path b d k spent label name x spends stands e at_path none =
      let put = λ (n : List ℕ). deposit hash keys s n (holding_or_none (look_up n (volatile s.advert.pre))) in
      let r = map_at put (puts_of (core x.c)) k spent
      (subst (λ (z : Unsigned). slice_get z.spends (suc k) ≡ Some spent) x.made spends) in
      let there : slice_get (puts_of (core b)) k ≡ Some r.0 =
      subst (λ (y : term.Guarded). slice_get (puts_of (core y)) k ≡ Some r.0) x.same r.1 in
      let same : r.0 ≡ name = some_same (sym there ∙ stands) in
      owner_asks spent.script label (put_owner s.advert name) e
      (ap (λ (z : Spent). z.script) r.2
      ∙ own_of_key hash keys s (r.0) (holding_or_none (look_up (r.0) (volatile s.advert.pre)))
      (no_own keys (r.0)
      (ap (λ (o : Option (List ℕ)). o >>= wallet_of keys) (sym there)
      ∙ ap (λ (o : Option term.Guarded). slice_get (puts_at o) k >>= wallet_of keys) (sym at_path)
      ∙ none))
      ∙ ap (λ (n : List ℕ). deposit_script (key_in hash keys (labels.Deposit (put_owner s.advert n)))) same)

  -- ---- all

  pub made_at : (path : List PathStep) (o : Option Unsigned) (d : Unsigned)
      → option_map (λ (l : Listed). l.pending) (option_map (path_listed s path) o) ≡ Some d → o ≡ Some d
  made_at path None d e = cc
  made_at path (Some x) d e = e

  branch_asks : (path : List PathStep) (b : term.Guarded) (d : Unsigned) (k : ℕ) (spent : Spent) (label : Label) (verb : Verb)
      → Stands path b d → slice_get d.spends k ≡ Some spent → BranchBy s path b k label verb → at s.advert.root path ≡ Some b
      → input_wallet keys s.advert (names.At path) k ≡ None → AsksForKey hash keys s spent.script label
  branch_asks path b d zero spent label verb x spends h at_path none =
      subst (AsksForKey hash keys s spent.script) (sym h.key) (position_asks path b d spent x spends)
  branch_asks path b d (suc k) spent label verb x spends h at_path none =
      put_asks path b d k spent label h.name x spends h.stands h.key at_path none

  each_asks : (which : Which) (k : ℕ) (label : Label) (verb : Verb) (d : Unsigned) (spent : Spent)
      → option_map (λ (l : Listed). l.pending) (listed_at hash keys s which) ≡ Some d → slice_get d.spends k ≡ Some spent
      → Signs s which k label verb → input_wallet keys s.advert which k ≡ None → AsksForKey hash keys s spent.script label
  each_asks names.Init k label verb d spent there spends h none =
      initial_asks d k spent label h.deposit there spends h.stands h.key none
  each_asks (names.At path) k label verb d spent there spends h none =
      branch_asks path h.0 d k spent label verb
      (stands_there path h.0 d (made_at path (unsigned_at hash keys s path) d there) h.1) spends h.2 h.1 none

pub scripts_ask : ScriptsAsk
scripts_ask hash keys s = record {
  keyed = λ slot c none.
      let a = (asks_exactly hash keys s slot).0 c in
      each_asks hash keys s slot.which slot.input slot.label slot.verb slot.pending slot.spent a.there a.spends a.signs
      (sym a.brought ∙ none);
  by_keys = λ of_keys slot c.
      let a = (asks_exactly hash keys s slot).0 c in
      a.brought ∙ no_wallet keys of_keys s.advert slot.which slot.input;
}
