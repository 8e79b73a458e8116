-- Whom withdraws pay is found by paths, and so are the keys that a deal uses.
use Rattle.std.proofs.Common.{◌≡◌, ◌⊎◌, inl, inr, ℕ, zero, suc, List, [], ◌∷◌, Bool, true, not, ◌&&◌, ◌||◌, Option, Some, None}
use Rattle.std.proofs.Common.{refl, sym, ap, ◌∙◌, subst}
use Rattle.std.specs.Prelude.{is_some, option_map, option_and_then, slice_get}
use Rattle.std.specs.Str.{bytes_eq}
use Rattle.std.proofs.lemmas.Bool.{and_parts, and_from, or_cases, or_right}
use Rattle.spec_data.specs.Lists.{is_among}
use Rattle.spec_terms.specs.Term.{Guarded, auth, after, put_reveal, withdraw, split, Contract, no_branch, branch, Parts, no_part, part}
use Rattle.spec_terms.specs.Term.{branches, parts_list}
use Rattle.spec_terms.specs.Advert.{Advert}
use Rattle.spec_terms.specs.Core.{core}
use Rattle.spec_terms.specs.Paths.{position, at_branch, below, subterm_from, as_branch, at}
use Rattle.spec_terms.specs.Precondition.{deposits}
use Rattle.spec_terms.specs.declared.path.PathStep.{PathStep}
use Rattle.spec_terms.specs.declared.path.PathStep.TheVariants.{Branch as To, Part as Into}
use Rattle.spec_bitcoin.specs.declared.label.Label.TheVariants as labels
use Rattle.spec_compiler.specs.Keyed.Keys.{Keys, own_script, own_payee}
use Rattle.spec_deal.specs.declared.deal.Needed.{Needed}
use Rattle.spec_deal.specs.declared.deal.Needed.TheVariants as needs
use Rattle.spec_deal.specs.DealFile.{is_used}
use Rattle.spec_deal.specs.Used.{paid_by, choice_paid, parts_paid, is_key_deposit, has_key_deposit, is_paid, uses_key}
use Rattle.theory_calculus.specs.Members.{Is_in}
use Rattle.theory_calculus.proofs.Members.{in_left, in_right, in_append, in_from_contains}
use Rattle.theory_calculus.proofs.Names.{bytes-true, bytes_refl}
use Rattle.theory_deal.proofs.Listed.{any_found}
use Rattle.theory_deal.proofs.Ledger.Made.{any_in}
use Rattle.theory_deal.specs.Used.{BringsByKey, IsPaidByKey, KeysAreUsed}

-- the branch at the end of these steps from a branch
abbrev led_from : List PathStep → Guarded → Option Guarded
led_from steps b = option_and_then as_branch (subterm_from (at_branch b) steps)

-- a withdraw of the party stands at the end of these steps
record LeadsTo (party : List ℕ) (b : Guarded) : Type 0 where
  pub steps : List PathStep
  pub end : Guarded
  pub there : led_from steps b ≡ Some end
  pub pays : core end ≡ withdraw party

record BranchLeads (party : List ℕ) (c : Contract) : Type 0 where
  pub i : ℕ
  pub b : Guarded
  pub stands : slice_get (branches c) i ≡ Some b
  pub leads : LeadsTo party b

record PartLeads (party : List ℕ) (ps : Parts) : Type 0 where
  pub k : ℕ
  pub x : ℕ × Contract
  pub stands : slice_get (parts_list ps) k ≡ Some x
  pub leads : BranchLeads party (x.1)

-- what stands above a core changes nothing
lifted : (party : List ℕ) (b body : Guarded) → core b ≡ core body → LeadsTo party body → LeadsTo party b
lifted party b body e l = by_steps l.steps l.there
  where
    by_steps : (steps : List PathStep) → led_from steps body ≡ Some l.end → LeadsTo party b
    by_steps [] h = record {
      steps = [];
      end = b;
      there = refl;
      pays = e ∙ ap core (same h) ∙ l.pays;
    }
      where
        same : {x y : Guarded} → Some x ≡ Some y → x ≡ y
        same m = cc
    by_steps (s ∷ steps) h = record {
      steps = s ∷ steps;
      end = l.end;
      there = ap (λ g. option_and_then as_branch (option_and_then (λ q. subterm_from q steps) (below g s))) e ∙ h;
      pays = l.pays;
    }

first_or_later : (party : List ℕ) (b : Guarded) (bs : Contract) → Is_in party (paid_by b) ⊎ Is_in party (choice_paid bs)
    → (Is_in party (paid_by b) → LeadsTo party b) → (Is_in party (choice_paid bs) → BranchLeads party bs) → BranchLeads party (branch b bs)
first_or_later party b bs (inl one) first later = record { i = 0; b = b; stands = refl; leads = first one }
first_or_later party b bs (inr more) first later =
    let r = later more in
    record { i = suc r.i; b = r.b; stands = r.stands; leads = r.leads }

part_or_later : (party : List ℕ) (v : ℕ) (c : Contract) (ps : Parts) → Is_in party (choice_paid c) ⊎ Is_in party (parts_paid ps)
    → (Is_in party (choice_paid c) → BranchLeads party c) → (Is_in party (parts_paid ps) → PartLeads party ps)
    → PartLeads party (part v c ps)
part_or_later party v c ps (inl one) first later = record { k = 0; x = (v, c); stands = refl; leads = first one }
part_or_later party v c ps (inr more) first later =
    let r = later more in
    record { k = suc r.k; x = r.x; stands = r.stands; leads = r.leads }

mutual
  choice_leads : (party : List ℕ) (c : Contract) → Is_in party (choice_paid c) → BranchLeads party c
  choice_leads party no_branch h = absurd h
  choice_leads party (branch b bs) h =
      first_or_later party b bs (in_append party (paid_by b) (choice_paid bs) h) (λ x. branch_leads party b x) (λ x. choice_leads party bs x)

  branch_leads : (party : List ℕ) (b : Guarded) → Is_in party (paid_by b) → LeadsTo party b
  branch_leads party (auth p body) h = lifted party (auth p body) body refl (branch_leads party body h)
  branch_leads party (after t body) h = lifted party (after t body) body refl (branch_leads party body h)
  branch_leads party (put_reveal puts reveals test next) h =
      let r = choice_leads party next h in
      record {
        steps = To r.i ∷ r.leads.steps;
        end = r.leads.end;
        there = ap
            (λ o. option_and_then as_branch (option_and_then (λ q. subterm_from q r.leads.steps) (option_map at_branch o)))
            r.stands
            ∙ r.leads.there;
        pays = r.leads.pays;
      }
  branch_leads party (withdraw p) (inl e) = record { steps = []; end = withdraw p; there = refl; pays = ap withdraw (sym e) }
  branch_leads party (withdraw p) (inr e) = absurd e
  branch_leads party (split parts) h =
      let r = parts_lead party parts h in
      record {
        steps = Into r.k ∷ To r.leads.i ∷ r.leads.leads.steps;
        end = r.leads.leads.end;
        there = ap
            (λ (o : Option (ℕ × Contract)). option_and_then as_branch
            (option_and_then (λ q. subterm_from q (To r.leads.i ∷ r.leads.leads.steps)) (option_map (λ (p : ℕ × Contract). position (p.1)) o)))
            r.stands
            ∙ ap
            (λ o. option_and_then as_branch (option_and_then (λ q. subterm_from q r.leads.leads.steps) (option_map at_branch o)))
            r.leads.stands
            ∙ r.leads.leads.there;
        pays = r.leads.leads.pays;
      }

  parts_lead : (party : List ℕ) (ps : Parts) → Is_in party (parts_paid ps) → PartLeads party ps
  parts_lead party no_part h = absurd h
  parts_lead party (part v c ps) h =
      part_or_later party v c ps (in_append party (choice_paid c) (parts_paid ps) h) (λ x. choice_leads party c x) (λ x. parts_lead party ps x)

-- ---- and back

paid_core : (b : Guarded) → paid_by b ≡ paid_by (core b)
paid_core (auth p body) = paid_core body
paid_core (after t body) = paid_core body
paid_core (put_reveal puts reveals test next) = refl
paid_core (withdraw p) = refl
paid_core (split parts) = refl

in_choice : (party : List ℕ) (c : Contract) (i : ℕ) (d : Guarded) → slice_get (branches c) i ≡ Some d → Is_in party (paid_by d)
    → Is_in party (choice_paid c)
in_choice party no_branch i d e h = cc
in_choice party (branch b bs) zero d e h = in_left party (paid_by b) (choice_paid bs) (subst (λ g. Is_in party (paid_by g)) (same e) h)
  where
    same : Some b ≡ Some d → d ≡ b
    same m = cc
in_choice party (branch b bs) (suc i) d e h = in_right party (paid_by b) (choice_paid bs) (in_choice party bs i d e h)

in_parts : (party : List ℕ) (ps : Parts) (k : ℕ) (x : ℕ × Contract) → slice_get (parts_list ps) k ≡ Some x → Is_in party (choice_paid (x.1))
    → Is_in party (parts_paid ps)
in_parts party no_part k x e h = cc
in_parts party (part v c ps) zero x e h =
    in_left party (choice_paid c) (parts_paid ps) (subst (λ (g : ℕ × Contract). Is_in party (choice_paid (g.1))) (same e) h)
  where
    same : Some (v, c) ≡ Some x → x ≡ (v, c)
    same m = cc
in_parts party (part v c ps) (suc k) x e h = in_right party (choice_paid c) (parts_paid ps) (in_parts party ps k x e h)

module _ (party : List ℕ) (end : Guarded) where
  -- by branch i of a choice
  placed : (steps : List PathStep) (c : Contract) (i : ℕ) → ((d : Guarded) → led_from steps d ≡ Some end → Is_in party (paid_by d))
      → option_and_then as_branch (option_and_then (λ q. subterm_from q steps) (option_map at_branch (slice_get (branches c) i))) ≡ Some end
      → Is_in party (choice_paid c)
  placed steps c i each h = by_branch (slice_get (branches c) i) refl h
    where
      by_branch : (o : Option Guarded) → slice_get (branches c) i ≡ o
          → option_and_then as_branch (option_and_then (λ q. subterm_from q steps) (option_map at_branch o)) ≡ Some end
          → Is_in party (choice_paid c)
      by_branch None e m = cc
      by_branch (Some d) e m = in_choice party c i d e (each d m)

  -- by part k of a split
  parted : (steps : List PathStep) (ps : Parts) (k : ℕ)
      → ((c : Contract) → option_and_then as_branch (subterm_from (position c) steps) ≡ Some end → Is_in party (choice_paid c))
      → option_and_then as_branch
      (option_and_then (λ q. subterm_from q steps) (option_map (λ (p : ℕ × Contract). position (p.1)) (slice_get (parts_list ps) k)))
      ≡ Some end
      → Is_in party (parts_paid ps)
  parted steps ps k each h = by_part (slice_get (parts_list ps) k) refl h
    where
      by_part : (o : Option (ℕ × Contract)) → slice_get (parts_list ps) k ≡ o
          → option_and_then as_branch
          (option_and_then (λ q. subterm_from q steps) (option_map (λ (p : ℕ × Contract). position (p.1)) o))
          ≡ Some end
          → Is_in party (parts_paid ps)
      by_part None e m = cc
      by_part (Some x) e m = in_parts party ps k x e (each (x.1) m)

  -- one step from a core
  core_pays : (s : PathStep) (steps : List PathStep) (g : Guarded)
      → ((d : Guarded) → led_from steps d ≡ Some end → Is_in party (paid_by d))
      → ((c : Contract) → option_and_then as_branch (subterm_from (position c) steps) ≡ Some end → Is_in party (choice_paid c))
      → option_and_then as_branch (option_and_then (λ q. subterm_from q steps) (below g s)) ≡ Some end → Is_in party (paid_by g)
  core_pays (To i) steps (put_reveal puts reveals test next) by_branch by_part h = placed steps next i by_branch h
  core_pays (Into k) steps (put_reveal puts reveals test next) by_branch by_part h = cc
  core_pays (To i) steps (split parts) by_branch by_part h = cc
  core_pays (Into k) steps (split parts) by_branch by_part h = parted steps parts k by_part h
  core_pays s steps (auth p body) by_branch by_part h = cc
  core_pays s steps (after t body) by_branch by_part h = cc
  core_pays s steps (withdraw p) by_branch by_part h = cc

  module _ (pays : core end ≡ withdraw party) where
    mutual
      branch_pays : (steps : List PathStep) (b : Guarded) → led_from steps b ≡ Some end → Is_in party (paid_by b)
      branch_pays [] b h = subst (λ (ps : List (List ℕ)). Is_in party ps) (sym (paid_core b ∙ ap paid_by (ap core (same h) ∙ pays))) (inl refl)
        where
          same : Some b ≡ Some end → b ≡ end
          same m = cc
      branch_pays (s ∷ steps) b h =
          subst (λ (ps : List (List ℕ)). Is_in party ps) (sym (paid_core b))
          (core_pays s steps (core b) (λ d m. branch_pays steps d m) (λ c m. position_pays steps c m) h)

      position_pays : (steps : List PathStep) (c : Contract) → option_and_then as_branch (subterm_from (position c) steps) ≡ Some end
          → Is_in party (choice_paid c)
      position_pays [] c h = cc
      position_pays (To i ∷ steps) c h = placed steps c i (λ d m. branch_pays steps d m) h
      position_pays (Into k ∷ steps) c h = cc

-- ---- keys

is_bare : {X : Type 0} (o : Option X) → not (is_some o) ≡ true → o ≡ None
is_bare None h = refl
is_bare (Some x) h = cc

from_bare : {X : Type 0} (o : Option X) → o ≡ None → not (is_some o) ≡ true
from_bare o e = ap (λ x. not (is_some x)) e

module _ (keys : Keys) (advert : Advert) (party : List ℕ) where
  brings : has_key_deposit keys advert party ≡ true → BringsByKey keys advert party
  brings h =
      let r = any_found (is_key_deposit keys party) (deposits advert.pre) h in
      let p = and_parts (bytes_eq ((r.0).1).owner party) (not (is_some (own_script keys ((r.0).0)))) r.2 in
      record {
        name = (r.0).0;
        holding = (r.0).1;
        stands = r.1;
        owned = bytes-true ((r.0).1).owner party (p.0);
        bare = is_bare (own_script keys ((r.0).0)) (p.1);
      }

  from_brings : BringsByKey keys advert party → has_key_deposit keys advert party ≡ true
  from_brings b =
      any_in (is_key_deposit keys party) (deposits advert.pre) (b.name, b.holding) (in_from_contains (deposits advert.pre) (b.name, b.holding) b.stands)
      (and_from (bytes_eq b.holding.owner party) (not (is_some (own_script keys b.name)))
      (ap (λ x. bytes_eq x party) b.owned ∙ bytes_refl party) (from_bare (own_script keys b.name) b.bare))

  among : is_among party (choice_paid advert.root) ≡ true → Is_in party (choice_paid advert.root)
  among h =
      let r = any_found (λ (t : List ℕ). bytes_eq t party) (choice_paid advert.root) h in
      subst (λ (t : List ℕ). Is_in t (choice_paid advert.root)) (bytes-true r.0 party r.2) (in_from_contains (choice_paid advert.root) r.0 r.1)

  is_paid_by : (is_paid advert party && not (is_some (own_payee keys party))) ≡ true → IsPaidByKey keys advert party
  is_paid_by h =
      let p = and_parts (is_paid advert party) (not (is_some (own_payee keys party))) h in
      let r = choice_leads party advert.root (among (p.0)) in
      record {
        path = To r.i ∷ r.leads.steps;
        taken = r.leads.end;
        stands = ap
            (λ o. option_and_then as_branch (option_and_then (λ q. subterm_from q r.leads.steps) (option_map at_branch o)))
            r.stands
            ∙ r.leads.there;
        pays = r.leads.pays;
        bare = is_bare (own_payee keys party) (p.1);
      }

  from_paid : IsPaidByKey keys advert party → (is_paid advert party && not (is_some (own_payee keys party))) ≡ true
  from_paid w =
      and_from (is_paid advert party) (not (is_some (own_payee keys party)))
      (any_in (λ (t : List ℕ). bytes_eq t party) (choice_paid advert.root) party
      (position_pays party w.taken w.pays w.path advert.root w.stands) (bytes_refl party))
      (from_bare (own_payee keys party) w.bare)

  to_uses : uses_key keys advert party ≡ true → BringsByKey keys advert party ⊎ IsPaidByKey keys advert party
  to_uses h = by_side (or_cases (has_key_deposit keys advert party) (is_paid advert party && not (is_some (own_payee keys party))) h)
    where
      by_side : (has_key_deposit keys advert party ≡ true) ⊎ ((is_paid advert party && not (is_some (own_payee keys party))) ≡ true)
          → BringsByKey keys advert party ⊎ IsPaidByKey keys advert party
      by_side (inl one) = inl (brings one)
      by_side (inr other) = inr (is_paid_by other)

  from_uses : BringsByKey keys advert party ⊎ IsPaidByKey keys advert party → uses_key keys advert party ≡ true
  from_uses (inl one) =
      ap (λ t. t || (is_paid advert party && not (is_some (own_payee keys party)))) (from_brings one)
  from_uses (inr other) = or_right (has_key_deposit keys advert party) (is_paid advert party && not (is_some (own_payee keys party))) (from_paid other)

others : (keys : Keys) (advert : Advert) (what : Needed) → ((party : List ℕ) → what ≡ needs.Key (labels.Deposit party) → ⊥)
    → is_used keys advert what ≡ true
others keys advert (needs.Key (labels.Deposit party)) h = absurd (h party refl)
others keys advert (needs.Key (labels.Branch contract path party)) h = refl
others keys advert (needs.Deposit name) h = refl
others keys advert (needs.Hash name) h = refl
others keys advert needs.Network h = refl
others keys advert (needs.Payee party) h = refl

pub keys_are_used : KeysAreUsed
keys_are_used = record {
  deposits = λ keys advert party. (to_uses keys advert party, from_uses keys advert party);
  others = others;
}
