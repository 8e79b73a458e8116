-- The signatures that a deal asks for stand in the order of the text, each once.
use Rattle.std.proofs.Common.{◌≡◌, ℕ, ◌+◌, ◌<◌, List, [], ◌∷◌, map, Option, Some, None, refl, sym, ap, subst, ◌∙◌, arith, inl, inr}
use Rattle.std.specs.Option.{option_map_or}
use Rattle.spec_terms.specs.Term as term
use Rattle.spec_terms.specs.Core.{core, puts_of}
use Rattle.spec_terms.specs.Parties.{participants}
use Rattle.spec_terms.specs.Paths.{at}
use Rattle.spec_terms.specs.Order.{branch_paths}
use Rattle.spec_terms.specs.Precondition.{Holding, persistent}
use Rattle.spec_terms.specs.declared.path.PathStep.{PathStep}
use Rattle.spec_bitcoin.specs.declared.label.Label.{Label}
use Rattle.spec_compiler.specs.Keyed.Keys.{Keys}
use Rattle.spec_compiler.specs.Keyed.Instance.{Instance, people, branch_label}
use Rattle.spec_compiler.specs.declared.unsigned.Spent.{Spent}
use Rattle.spec_compiler.specs.declared.unsigned.Unsigned.{Unsigned}
use Rattle.spec_compiler.specs.Keyed.Compilation.{path_transactions}
use Rattle.spec_compiler.specs.Keyed.Endorsements.{put_owner}
use Rattle.spec_tool.specs.declared.which.Which.{Which}
use Rattle.spec_tool.specs.declared.which.Which.TheVariants as names
use Rattle.spec_tool.specs.Keyed.Listed.{Listed, deposit_signer, initial_signers, branch_signers, path_signers, initial_listed, path_listed, listed}
use Rattle.spec_deal.specs.Finished.{label_party}
use Rattle.spec_deal.specs.Slots.{Slot, input_slot, input_slots, slots_from, listed_slots, slots}
use Rattle.theory_calculus.specs.Members.{Is_in}
use Rattle.theory_psbt.proofs.KeysDiffer.{participants_differ}
use Rattle.theory_deal.proofs.Ascending.{ascend_then, ascend_append, ascend_map, ascend_back, ascend_flat, standing}
use Rattle.theory_deal.proofs.Ascending.{AreApart, precedes_apart, paths_apart, names_apart}
use Rattle.theory_deal.proofs.Signing.{in_map, from_slots}
use Rattle.theory_deal.specs.SigningOrder.{Precedes, ComesBefore, IsAscending, IsSameSignature, SignaturesInOrder}
use Rattle.theory_deal.specs.Transactions.{all_names, TransactionsOfDeals}

module _ (keys : Keys) (s : Instance) where
  -- one label's party comes before another's
  abbrev Before : Label → Label → Type 0
  Before a b = Precedes (people s) (label_party a) (label_party b)

  -- the labels of each input stand in the order of the participants
  abbrev AllAscend : List (List Label) → Type 0
  AllAscend signers = (those : List Label) → Is_in those signers → IsAscending Before those

  alone : {X : Type 0} (owner : X → List ℕ) (xs : List X) → AllAscend (map (λ x. deposit_signer (owner x)) xs)
  alone owner xs those h =
      let r = in_map (λ x. deposit_signer (owner x)) xs those h in
      subst (IsAscending Before) (sym r.2) (λ y i. absurd i, tt)

  initial_ascend : AllAscend (initial_signers s.advert)
  initial_ascend = alone (λ (d : List ℕ × Holding). (d.1).owner) (persistent s.advert.pre)

  path_ascend : (path : List PathStep) → AllAscend (path_signers s path)
  path_ascend path = by_branch (at s.advert.root path)
    where
      by_branch : (o : Option term.Guarded) → AllAscend (option_map_or (branch_signers s.contract s.advert path) o [])
      by_branch None those h = absurd h
      by_branch (Some b) those (inl e) =
          subst (IsAscending Before) (sym e)
          (ascend_map Before (branch_label s.contract path) (participants s.advert) (standing (participants s.advert)))
      by_branch (Some b) those (inr h) = alone (λ (name : List ℕ). put_owner s.advert name) (puts_of (core b)) those h

  -- ---- of one transaction

  module _ (l : Listed) where
    input_ascend : (k : ℕ) (spent : Spent) (those : List Label) → IsAscending Before those
        → IsAscending (ComesBefore s) (input_slots keys s.advert l k spent those)
    input_ascend k spent those h =
        ascend_map (ComesBefore s) (input_slot keys s.advert l k spent) those
        (ascend_then Before (λ a b. ComesBefore s (input_slot keys s.advert l k spent a) (input_slot keys s.advert l k spent b)) those
        (λ a b p. inr (inr (refl, refl, p))) h)

    inputs_ascend : (k : ℕ) (spends : List Spent) (signers : List (List Label)) → AllAscend signers
        → IsAscending (ComesBefore s) (slots_from keys s.advert l k spends signers)
    inputs_ascend k [] signers h = tt
    inputs_ascend k (spent ∷ spends) [] h = tt
    inputs_ascend k (spent ∷ spends) (those ∷ signers) h =
        ascend_append (ComesBefore s) (input_slots keys s.advert l k spent those) (slots_from keys s.advert l (k + 1) spends signers)
        (input_ascend k spent those (h those (inl refl)))
        (inputs_ascend (k + 1) spends signers (λ x i. h x (inr i)))
        (λ u v a b.
        let p = in_map (input_slot keys s.advert l k spent) those u a in
        let q = from_slots keys s l (k + 1) spends signers v b in
        let less : k < k + 1 + q.j = omega arith in
        subst (λ (x : Slot). ComesBefore s x v) (sym p.2)
        (subst (ComesBefore s (input_slot keys s.advert l k spent p.0)) (sym q.same) (inr (inl (refl, less)))))

  -- its signatures are of this transaction
  which_of : (l : Listed) (slot : Slot) → Is_in slot (listed_slots keys s.advert l) → slot.which ≡ l.which
  which_of l slot h = ap (λ (x : Slot). x.which) (from_slots keys s l 0 l.pending.spends l.signers slot h).same

  -- ---- names without repetition

  init_or_path : (paths : List (List PathStep)) (y : Which) → Is_in y (map names.At paths) → names.Init ≡ y → ⊥
  init_or_path paths y i e = let r = in_map names.At paths y i in let k : names.Init ≡ names.At r.0 = e ∙ r.2 in cc

  names_differ : (paths : List (List PathStep)) → AreApart paths → AreApart (map names.At paths)
  names_differ paths h =
      ascend_map (λ (a b : Which). a ≡ b → ⊥) names.At paths
      (ascend_then (λ (a b : List PathStep). a ≡ b → ⊥) (λ a b. names.At a ≡ names.At b → ⊥) paths (λ a b f e. f cc) h)

module _ (hash : List ℕ → List ℕ) (keys : Keys) (s : Instance) where
  each_ascends : (l : Listed) → Is_in l (listed hash keys s) → IsAscending (ComesBefore s) (listed_slots keys s.advert l)
  each_ascends l (inl e) =
      subst (λ (x : Listed). IsAscending (ComesBefore s) (listed_slots keys s.advert x)) (sym e)
      (inputs_ascend keys s (initial_listed hash keys s) 0 (initial_listed hash keys s).pending.spends (initial_signers s.advert)
      (initial_ascend keys s))
  each_ascends l (inr h) =
      let r = in_map (λ (p : List PathStep × Unsigned). path_listed s (p.0) (p.1)) (path_transactions hash keys s) l h in
      subst (λ (x : Listed). IsAscending (ComesBefore s) (listed_slots keys s.advert x)) (sym r.2)
      (inputs_ascend keys s (path_listed s ((r.0).0) ((r.0).1)) 0 ((r.0).1).spends (path_signers s ((r.0).0))
      (path_ascend keys s ((r.0).0)))

  all_ascend : map (λ (l : Listed). l.which) (listed hash keys s) ≡ all_names s.advert.root
      → IsAscending (ComesBefore s) (slots hash keys s)
  all_ascend named =
      let by_name : Listed → Listed → Type 0 = λ a b. Precedes (all_names s.advert.root) a.which b.which in
      ascend_flat by_name (ComesBefore s) (listed_slots keys s.advert) (listed hash keys s)
      (ascend_back (Precedes (all_names s.advert.root)) (λ (l : Listed). l.which) (listed hash keys s)
      (subst (λ (ns : List Which). IsAscending (Precedes ns) (map (λ (l : Listed). l.which) (listed hash keys s))) named
      (standing (map (λ (l : Listed). l.which) (listed hash keys s)))))
      each_ascends
      (λ a b u v p i j.
      inl (subst (λ (w : Which). Precedes (all_names s.advert.root) w v.which) (sym (which_of keys s a u i))
      (subst (Precedes (all_names s.advert.root) a.which) (sym (which_of keys s b v j)) p)))

  never_same : AreApart (all_names s.advert.root) → (x y : Slot) → ComesBefore s x y → IsSameSignature x y → ⊥
  never_same apart x y (inl p) same = precedes_apart (all_names s.advert.root) x.which y.which apart p same.which
  never_same apart x y (inr (inl p)) same = let n = same.input in absurd (omega (arith, p.1, n))
  never_same apart x y (inr (inr p)) same =
      precedes_apart (people s) (label_party x.label) (label_party y.label)
      (names_apart (people s) (participants_differ s.advert)) p.2 (ap label_party same.label)

pub signatures_in_order : TransactionsOfDeals → SignaturesInOrder
signatures_in_order transactions hash keys s =
    let are = transactions hash keys s in
    let paths = branch_paths s.advert.root in
    let apart : AreApart (all_names s.advert.root) =
    (init_or_path keys s paths, names_differ keys s paths (paths_apart paths are.once)) in
    let ascending = all_ascend hash keys s are.named in
    record {
      ascending = ascending;
      once =
          ascend_then (ComesBefore s) (λ (x y : Slot). IsSameSignature x y → ⊥) (slots hash keys s) (never_same hash keys s apart)
          ascending;
    }
