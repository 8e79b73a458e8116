-- Each transaction of a deal spends different outputs: its deposits lie at different places, and none where the contract pays.
use Rattle.std.proofs.Common.{◌≡◌, ℕ, List, [], ◌∷◌, map, Bool, true, false, not, Option, Some, None}
use Rattle.std.proofs.Common.{refl, sym, ap, ◌∙◌, subst, inl, inr}
use Rattle.std.specs.Prelude.{◌||◌}
use Rattle.std.specs.List.{list_all, list_any}
use Rattle.std.specs.Option.{option_map, option_and_then}
use Rattle.std.specs.Str.{bytes_eq}
use Rattle.std.proofs.lemmas.Bool.{and_parts, and_from, or_from, or_parts, not-true, both_ways}
use Rattle.spec_data.specs.Lists.{is_among, are_different, look_up}
use Rattle.spec_terms.specs.Term as term
use Rattle.spec_terms.specs.Core.{core, puts_of}
use Rattle.spec_terms.specs.Faults.{IsWellFormed}
use Rattle.spec_terms.specs.Precondition.{Holding, persistent, deposits, names_of}
use Rattle.spec_terms.specs.declared.path.PathStep.{PathStep}
use Rattle.spec_bitcoin.specs.declared.tx.OutPoint.{OutPoint}
use Rattle.spec_bitcoin.specs.declared.tx.TxIn.{TxIn}
use Rattle.spec_bitcoin.specs.Live.{same_outpoint}
use Rattle.spec_bitcoin.specs.Verdict.{has_repeat}
use Rattle.spec_compiler.specs.Keyed.Keys.{Keys}
use Rattle.spec_compiler.specs.Keyed.Instance.{Instance}
use Rattle.spec_compiler.specs.Keyed.Transactions.{Standing, input_of, deposit, outpoint_or_none, put_deposits}
use Rattle.spec_compiler.specs.Keyed.Transactions.{persistent_deposits, branch_unsigned}
use Rattle.spec_compiler.specs.Keyed.ByPath.{PathEnd, at_position, at_branch, end_at, as_unsigned}
use Rattle.spec_tool.specs.declared.which.Which.{Which}
use Rattle.spec_tool.specs.declared.which.Which.TheVariants as names
use Rattle.spec_tool.specs.Keyed.Listed.{Listed, path_listed, listed_at}
use Rattle.spec_deal.specs.Answers.{circular}
use Rattle.spec_deal.specs.Needed.{needed_deposits}
use Rattle.theory_calculus.specs.Members.{Is_in}
use Rattle.theory_calculus.proofs.Names.{bytes_refl, different_names, persistent_different, persistent_deposit, in_named, looked_in, named_looked}
use Rattle.theory_script.proofs.Keyed.Stands.{some_same}
use Rattle.theory_world.proofs.Same.{place-true}
use Rattle.theory_world.proofs.Tests.{any_map}
use Rattle.theory_deal.proofs.Ledger.Made.{IsMade, position_made, no_deposit_made}
use Rattle.theory_deal.proofs.ReadBranches.{puts_needed, puts_different}

-- ---- places

-- one of the places stands there twice
abbrev twice : List OutPoint → Bool
twice [] = false
twice (p ∷ ps) = list_any (λ q. same_outpoint q p) ps || twice ps

repeats_by_place : (is : List TxIn) → has_repeat is ≡ twice (map (λ i. i.prev) is)
repeats_by_place [] = refl
repeats_by_place (i ∷ is) =
    λ j. sym (any_map (λ q. same_outpoint q i.prev) (λ (x : TxIn). x.prev) is) j || repeats_by_place is j

module _ (hash : List ℕ → List ℕ) (keys : Keys) (s : Instance) where
  -- where the deposit of a name lies
  abbrev pub place_of : List ℕ → OutPoint
  place_of name = outpoint_or_none (look_up name s.bound)

  -- what is known of the deposits of a deal
  pub record AreApart : Type 0 where
    pub bound : names_of s.bound ≡ needed_deposits s.advert
    pub apart : (a b : List ℕ) → is_among a (needed_deposits s.advert) ≡ true → is_among b (needed_deposits s.advert) ≡ true
        → same_outpoint (place_of a) (place_of b) ≡ true → a ≡ b
    pub unmade : circular hash keys s ≡ None

  module _ (well : IsWellFormed s.advert) (deal : AreApart) where
    -- ---- different deposits

    none_there : (n : List ℕ) (ms : List (List ℕ)) → is_among n (needed_deposits s.advert) ≡ true
        → list_all (λ m. is_among m (needed_deposits s.advert)) ms ≡ true → is_among n ms ≡ false
        → list_any (λ q. same_outpoint q (place_of n)) (map place_of ms) ≡ false
    none_there n [] i h d = refl
    none_there n (m ∷ ms) i h d =
        let p = and_parts (is_among m (needed_deposits s.advert)) (list_all (λ x. is_among x (needed_deposits s.advert)) ms) h in
        let e = or_parts (bytes_eq m n) (is_among n ms) d in
        or_from _ _ (by_test (same_outpoint (place_of m) (place_of n)) refl p.0 e.0) (none_there n ms i p.1 e.1)
      where
        by_test : (b : Bool) → same_outpoint (place_of m) (place_of n) ≡ b → is_among m (needed_deposits s.advert) ≡ true
            → bytes_eq m n ≡ false → b ≡ false
        by_test false same k f = refl
        by_test true same k f =
            let one = deal.apart m n k i same in
            absurd (both_ways _ f (subst (λ (x : List ℕ). bytes_eq m x ≡ true) one (bytes_refl m)))

    none_twice : (ns : List (List ℕ)) → list_all (λ n. is_among n (needed_deposits s.advert)) ns ≡ true → are_different ns ≡ true
        → twice (map place_of ns) ≡ false
    none_twice [] h d = refl
    none_twice (n ∷ ns) h d =
        let p = and_parts (is_among n (needed_deposits s.advert)) (list_all (λ x. is_among x (needed_deposits s.advert)) ns) h in
        let q = and_parts (not (is_among n ns)) (are_different ns) d in
        or_from _ _ (none_there n ns p.0 p.1 (not-true _ q.0)) (none_twice ns p.1 q.1)

    -- ---- the initial transaction

    persistent_places : (ds : List (List ℕ × Holding))
        → map (λ (i : TxIn). i.prev) (map input_of (map (λ d. deposit hash keys s d.0 d.1) ds)) ≡ map place_of (names_of ds)
    persistent_places [] = refl
    persistent_places (d ∷ ds) = ap (λ ps. place_of (d.0) ∷ ps) (persistent_places ds)

    all_needed : (ds : List (List ℕ × Holding)) → ((d : List ℕ × Holding) → Is_in d ds → Is_in d (deposits s.advert.pre))
        → list_all (λ n. is_among n (needed_deposits s.advert)) (names_of ds) ≡ true
    all_needed [] f = refl
    all_needed (d ∷ ds) f =
        and_from _ _ (in_named (deposits s.advert.pre) d (f d (inl refl))) (all_needed ds (λ x i. f x (inr i)))

    persistent_apart : has_repeat (map input_of (persistent_deposits hash keys s)) ≡ false
    persistent_apart =
        repeats_by_place (map input_of (persistent_deposits hash keys s))
        ∙ ap twice (persistent_places (persistent s.advert.pre))
        ∙ none_twice (names_of (persistent s.advert.pre))
        (all_needed (persistent s.advert.pre) (persistent_deposit s.advert.pre))
        (persistent_different s.advert.pre (different_names s.advert well))

    -- ---- the transaction of a path

    module _ (path : List PathStep) (here : Standing) (i : ℕ) (b : term.Guarded)
        (ends : end_at hash keys s path ≡ Some (at_branch here i b)) where
      put_places : (puts : List (List ℕ))
          → map (λ (x : TxIn). x.prev) (map input_of (put_deposits hash keys s puts)) ≡ map place_of puts
      put_places [] = refl
      put_places (n ∷ puts) = ap (λ ps. place_of n ∷ ps) (put_places puts)

      -- no deposit lies where the position's output does
      elsewhere : (n : List ℕ) → is_among n (needed_deposits s.advert) ≡ true → same_outpoint (place_of n) here.output.outpoint ≡ false
      elsewhere n k = by_test (same_outpoint (place_of n) here.output.outpoint) refl
        where
          by_test : (t : Bool) → same_outpoint (place_of n) here.output.outpoint ≡ t → t ≡ false
          by_test false e = refl
          by_test true e =
              let v = named_looked s.bound n (subst (λ ns. is_among n ns ≡ true) (sym deal.bound) k) in
              let one : v.0 ≡ here.output.outpoint =
              sym (ap outpoint_or_none (v.1)) ∙ place-true (place_of n) here.output.outpoint e in
              absurd (no_deposit_made hash keys s (n, v.0) deal.unmade (looked_in s.bound n (v.0) (v.1))
              (subst (IsMade hash keys s) (sym one) (position_made hash keys s path here i b ends)))

      all_elsewhere : (ns : List (List ℕ)) → list_all (λ n. is_among n (needed_deposits s.advert)) ns ≡ true
          → list_any (λ q. same_outpoint q here.output.outpoint) (map place_of ns) ≡ false
      all_elsewhere [] h = refl
      all_elsewhere (n ∷ ns) h =
          let p = and_parts (is_among n (needed_deposits s.advert)) (list_all (λ x. is_among x (needed_deposits s.advert)) ns) h in
          or_from _ _ (elsewhere n p.0) (all_elsewhere ns p.1)

      branch_apart : has_repeat (map input_of (branch_unsigned hash keys s here i b).spends) ≡ false
      branch_apart =
          repeats_by_place (map input_of (branch_unsigned hash keys s here i b).spends)
          ∙ ap (λ ps. twice (here.output.outpoint ∷ ps)) (put_places (puts_of (core b)))
          ∙ or_from _ _ (all_elsewhere (puts_of (core b)) (puts_needed hash keys s well path here i b ends))
          (none_twice (puts_of (core b)) (puts_needed hash keys s well path here i b ends) (puts_different hash keys s well path here i b ends))

    -- ---- all transactions

    abbrev Apart : Listed → Type 0
    Apart l = has_repeat (map input_of l.pending.spends) ≡ false

    by_ends : (path : List PathStep) (o : Option PathEnd) → end_at hash keys s path ≡ o → (l : Listed)
        → option_map (path_listed s path) (option_and_then (as_unsigned hash keys s) o) ≡ Some l → Apart l
    by_ends path None ends l e = cc
    by_ends path (Some (at_position here choice)) ends l e = cc
    by_ends path (Some (at_branch here i b)) ends l e = subst Apart (some_same e) (branch_apart path here i b ends)

    pub apart_at : (which : Which) (l : Listed) → listed_at hash keys s which ≡ Some l → Apart l
    apart_at names.Init l e = subst Apart (some_same e) persistent_apart
    apart_at (names.At path) l e = by_ends path (end_at hash keys s path) refl l e
