-- A deal is circular exactly where it makes one of its deposits or pays to one of its positions.
use Rattle.std.proofs.Common.{◌≡◌, ℕ, List, Bool, true, false, Option, Some, None, refl, sym, ap, ◌∙◌, subst}
use Rattle.std.specs.List.{find, list_any, Contains}
use Rattle.std.specs.Option.{option_map, option_map_or}
use Rattle.std.specs.Str.{bytes_eq}
use Rattle.std.proofs.lemmas.Bool.{both_ways}
use Rattle.spec_data.specs.Lists.{or_else}
use Rattle.spec_terms.specs.declared.path.PathStep.{PathStep}
use Rattle.spec_bitcoin.specs.declared.tx.OutPoint.{OutPoint}
use Rattle.spec_bitcoin.specs.Digests.{txid}
use Rattle.spec_bitcoin.specs.Keys.{pay_to}
use Rattle.spec_compiler.specs.Keyed.Keys.{Keys, own_payee}
use Rattle.spec_compiler.specs.Keyed.Instance.{Instance, people}
use Rattle.spec_compiler.specs.Keyed.Transactions.{tx_of}
use Rattle.spec_compiler.specs.Keyed.Compilation.{scripts}
use Rattle.spec_tool.specs.Keyed.Listed.{Listed, listed}
use Rattle.spec_deal.specs.Answers.{is_made_here, circular_deposit, is_position_script, is_paid_here, circular_payee, circular}
use Rattle.theory_calculus.specs.Members.{Is_in}
use Rattle.theory_calculus.proofs.Members.{in_from_contains, contains_from_in, found}
use Rattle.theory_calculus.proofs.Names.{bytes-true, bytes_refl}
use Rattle.theory_deal.proofs.ByName.{none_mapped}
use Rattle.theory_deal.proofs.FinishedOpens.{first_none, second_none}
use Rattle.theory_deal.proofs.Listed.{none_found, any_found}
use Rattle.theory_deal.proofs.Ledger.Made.{any_in}
use Rattle.theory_deal.specs.Circles.{StandsAlone, NoneIsCircular}

-- where none passes, none is found
none_there : {X : Type 0} (p : X → Bool) (xs : List X) → ((x : X) → Is_in x xs → p x ≡ true → ⊥) → find p xs ≡ None
none_there {X} p xs f = by_found (find p xs) refl
  where
    by_found : (o : Option X) → find p xs ≡ o → o ≡ None
    by_found None e = refl
    by_found (Some x) e = let r = found p xs x e in absurd (f x r.0 r.1)

module _ (hash : List ℕ → List ℕ) (keys : Keys) (s : Instance) where
  makes : (d : List ℕ × OutPoint) → is_made_here hash keys s (d.1) ≡ true
      → (l : Listed) × Contains (listed hash keys s) l × (txid hash (tx_of l.pending) ≡ d.1.txid)
  makes d h =
      let r = any_found (λ (l : Listed). bytes_eq (txid hash (tx_of l.pending)) (d.1).txid) (listed hash keys s) h in
      (r.0, r.1, bytes-true (txid hash (tx_of (r.0).pending)) (d.1).txid r.2)

  pays_position : (script : List ℕ) → is_position_script hash keys s script ≡ true
      → (p : List PathStep × List ℕ) × Contains (scripts hash keys s) p × (pay_to (hash (p.1)) ≡ script)
  pays_position script h =
      let r = any_found (λ (p : List PathStep × List ℕ). bytes_eq (pay_to (hash (p.1))) script) (scripts hash keys s) h in
      (r.0, r.1, bytes-true (pay_to (hash ((r.0).1))) script r.2)

  alone : circular hash keys s ≡ None → StandsAlone hash keys s
  alone none = record {
    unmade = λ d c l i same.
        both_ways _
        (none_found (λ (q : List ℕ × OutPoint). is_made_here hash keys s (q.1)) s.bound d
        (none_mapped (λ (q : List ℕ × OutPoint). q.0) _ (first_none (circular_deposit hash keys s) (circular_payee hash keys s) none))
        (in_from_contains s.bound d c))
        (any_in (λ (x : Listed). bytes_eq (txid hash (tx_of x.pending)) (d.1).txid) (listed hash keys s) l
        (in_from_contains (listed hash keys s) l i)
        (ap (λ x. bytes_eq x (d.1).txid) same ∙ bytes_refl (d.1).txid));
    unpaid = λ party script c own p i same.
        both_ways _
        (none_found (is_paid_here hash keys s) (people s) party
        (second_none (circular_deposit hash keys s) (circular_payee hash keys s) none) (in_from_contains (people s) party c))
        (ap (λ (o : Option (List ℕ)). option_map_or (is_position_script hash keys s) o false) own
        ∙ any_in (λ (q : List PathStep × List ℕ). bytes_eq (pay_to (hash (q.1))) script) (scripts hash keys s) p
        (in_from_contains (scripts hash keys s) p i)
        (ap (λ x. bytes_eq x script) same ∙ bytes_refl script));
  }

  not_circular : StandsAlone hash keys s → circular hash keys s ≡ None
  not_circular h =
      let first : find (λ (q : List ℕ × OutPoint). is_made_here hash keys s (q.1)) s.bound ≡ None =
      none_there (λ (q : List ℕ × OutPoint). is_made_here hash keys s (q.1)) s.bound
      (λ d i made. let m = makes d made in h.unmade d (contains_from_in s.bound d i) m.0 m.1 m.2) in
      let second : circular_payee hash keys s ≡ None =
      none_there (is_paid_here hash keys s) (people s)
      (λ party i paid. by_script party i (own_payee keys party) refl paid) in
      ap (λ (o : Option (List ℕ × OutPoint)). or_else (option_map (λ (q : List ℕ × OutPoint). q.0) o) (circular_payee hash keys s)) first
      ∙ second
    where
      by_script : (party : List ℕ) → Is_in party (people s) → (o : Option (List ℕ)) → own_payee keys party ≡ o
          → option_map_or (is_position_script hash keys s) o false ≡ true → ⊥
      by_script party i None e k = cc
      by_script party i (Some script) e k =
          let m = pays_position script k in
          h.unpaid party script (contains_from_in (people s) party i) e m.0 m.1 m.2

pub none_is_circular : NoneIsCircular
none_is_circular hash keys s = (alone hash keys s, not_circular hash keys s)
