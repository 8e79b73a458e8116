-- By which transaction a position's output is made.
use Rattle.std.proofs.Common.{◌≡◌, ℕ, List, [], ◌∷◌, ◌++◌, Option, Some, None, refl, sym, ap, ◌∙◌, subst, append_assoc, append-nil, inl, inr}
use Rattle.std.specs.Prelude.{◌⊎◌, slice_get, option_map, option_and_then}
use Rattle.spec_terms.specs.Term as term
use Rattle.spec_terms.specs.Term.{Contract, branches, Parts, parts_list, auth, after, put_reveal, withdraw, split}
use Rattle.spec_terms.specs.Core.{core}
use Rattle.spec_terms.specs.declared.path.PathStep.{PathStep}
use Rattle.spec_terms.specs.declared.path.PathStep.TheVariants.{Branch as To, Part as Into}
use Rattle.spec_compiler.specs.Instance.{Instance, branch_path}
use Rattle.spec_compiler.specs.Transactions.{Standing, continued_value, branch_unsigned, continued, part_standing, output_outpoint, root_standing}
use Rattle.spec_compiler.specs.ByPath as by_path
use Rattle.spec_compiler.specs.ByPath.{PathEnd, branch_end, continued_end, part_end, next_end, end_from, end_at, as_position, position_at}
use Rattle.theory_script.proofs.Listing.Stands.{end_from-step}

module _ (hash : List ℕ → List ℕ) (s : Instance) where
  -- a branch of a position
  pub record IsBranch (path : List PathStep) (here : Standing) (i : ℕ) (b : term.Guarded) : Type 0 where
    pub position : List PathStep
    pub choice : Contract
    pub stands : position_at hash s position ≡ Some (here, choice)
    pub there : slice_get (branches choice) i ≡ Some b
    pub path_is : path ≡ position ++ To i ∷ []

  -- a position's output is output k of a branch's transaction, a put's continuation or a split's part
  pub record ByBranch (q : List PathStep) (here : Standing) (choice : Contract) : Type 0 where
    pub from_here : Standing
    pub index : ℕ
    pub branch : term.Guarded
    pub path : List PathStep
    pub is_branch : IsBranch path from_here index branch
    pub number : ℕ
    pub outpoint : here.output.outpoint ≡ output_outpoint hash (branch_unsigned hash s from_here index branch) number
    pub shape : ((puts reveals : List (List ℕ)) × (test : term.Pred) × (core branch ≡ put_reveal puts reveals test choice) × (number ≡ 0)
        × (q ≡ path)) ⊎ ((ps : Parts) × (value : ℕ) × (core branch ≡ split ps) × (slice_get (parts_list ps) number ≡ Some (value, choice))
        × (q ≡ path ++ Into number ∷ []))

  pub data MadeBy (q : List PathStep) (here : Standing) (choice : Contract) : Type 0 where
    by_initial : q ≡ [] → here ≡ root_standing hash s → MadeBy q here choice
    by_branch : ByBranch q here choice → MadeBy q here choice

  -- what stands at a path is a position that is made so, or a branch of one
  abbrev pub Known : PathEnd → List PathStep → Type 0
  Known (by_path.at_position here choice) q = MadeBy q here choice
  Known (by_path.at_branch here i b) path = IsBranch path here i b

  branch_known : (here : Standing) (choice : Contract) (i : ℕ) (st : PathEnd) (q : List PathStep) → position_at hash s q
      ≡ Some (here, choice) → branch_end here choice i ≡ Some st → Known st (q ++ To i ∷ [])
  branch_known here choice i st q h e = by_slot (slice_get (branches choice) i) refl e
    where
      by_slot : (o : Option term.Guarded) → slice_get (branches choice) i ≡ o → option_map (by_path.at_branch here i) o ≡ Some st → Known st (q ++ To i ∷ [])
      by_slot None f x = cc
      by_slot (Some b) f x =
          let z : by_path.at_branch here i b ≡ st = cc in
          subst (λ y. Known y (q ++ To i ∷ [])) z (record { position = q; choice = choice; stands = h; there = f; path_is = refl })

  continued_known : (here : Standing) (i : ℕ) (b c : term.Guarded) (p : Standing × Contract) (path : List PathStep) → core b ≡ c
      → IsBranch path here i b → continued_end hash s here i b c ≡ Some p → MadeBy path p.0 p.1
  continued_known here i b (put_reveal puts reveals test next) p path e k h =
      let z : (let q : Standing × Contract =
      (continued hash s (branch_path here.position i) (branch_unsigned hash s here i b) (continued_value s here.output.value puts) next, next) in q) ≡ p =
      cc in
      subst (λ (q : Standing × Contract). MadeBy path q.0 q.1) z
      (by_branch (record {
        from_here = here;
        index = i;
        branch = b;
        path = path;
        is_branch = k;
        number = 0;
        outpoint = refl;
        shape = inl
            (puts, reveals, test, e, refl, refl);
      }))
  continued_known here i b (withdraw party) p path e k h = cc
  continued_known here i b (split ps) p path e k h = cc
  continued_known here i b (auth party body) p path e k h = cc
  continued_known here i b (after height body) p path e k h = cc

  part_known : (here : Standing) (i j : ℕ) (b c : term.Guarded) (st : PathEnd) (path : List PathStep) → core b ≡ c → IsBranch path here i b
      → part_end hash s here i b j c ≡ Some st → Known st (path ++ Into j ∷ [])
  part_known here i j b (put_reveal puts reveals test next) st path e k h = cc
  part_known here i j b (withdraw party) st path e k h = cc
  part_known here i j b (split ps) st path e k h = by_slot (slice_get (parts_list ps) j) refl h
    where
      by_slot : (o : Option (ℕ × Contract)) → slice_get (parts_list ps) j ≡ o
          → option_map (λ (p : ℕ × Contract). by_path.at_position
          (part_standing hash s (branch_path here.position i) (branch_unsigned hash s here i b) j p.0 p.1) p.1) o ≡ Some st → Known st (path ++ Into j ∷ [])
      by_slot None f x = cc
      by_slot (Some p) f x =
          let z : by_path.at_position (part_standing hash s (branch_path here.position i) (branch_unsigned hash s here i b) j p.0 p.1) p.1 ≡ st = cc in
          subst (λ y. Known y (path ++ Into j ∷ [])) z (by_branch (record {
            from_here = here;
            index = i;
            branch = b;
            path = path;
            is_branch = k;
            number = j;
            outpoint = refl;
            shape = inr (ps, p.0, e, f, refl);
          }))
  part_known here i j b (auth party body) st path e k h = cc
  part_known here i j b (after height body) st path e k h = cc

  -- the position at a stand of this path
  at_stand : (st : PathEnd) (path : List PathStep) (here : Standing) (choice : Contract) → end_at hash s path ≡ Some st
      → as_position hash s st ≡ Some (here, choice) → position_at hash s path ≡ Some (here, choice)
  at_stand st path here choice h e = ap (option_and_then (as_position hash s)) h ∙ e

  next_known : (step : PathStep) (st next : PathEnd) (path : List PathStep) → end_at hash s path ≡ Some st → Known st path
      → next_end hash s step st ≡ Some next → Known next (path ++ step ∷ [])
  next_known (To i) (by_path.at_position here choice) next path h k e =
      branch_known here choice i next path (at_stand (by_path.at_position here choice) path here choice h refl) e
  next_known (Into j) (by_path.at_position here choice) next path h k e = cc
  next_known (To j) (by_path.at_branch here i b) next path h k e = by_continued (continued_end hash s here i b (core b)) refl e
    where
      by_continued : (o : Option (Standing × Contract)) → continued_end hash s here i b (core b) ≡ o
          → option_and_then (λ (p : Standing × Contract). branch_end p.0 p.1 j) o ≡ Some next → Known next (path ++ To j ∷ [])
      by_continued None f x = cc
      by_continued (Some p) f x = branch_known p.0 p.1 j next path (at_stand (by_path.at_branch here i b) path p.0 p.1 h f) x
  next_known (Into j) (by_path.at_branch here i b) next path h k e = part_known here i j b (core b) next path refl k e

  from_known : (rest : List PathStep) (st end : PathEnd) (prefix : List PathStep) → end_at hash s prefix ≡ Some st → Known st prefix
      → end_from hash s st rest ≡ Some end → Known end (prefix ++ rest)
  from_known [] st end prefix h k e = let z : st ≡ end = cc in subst (λ y. Known y (prefix ++ [])) z (subst (Known st) (sym (append-nil prefix)) k)
  from_known (step ∷ rest) st end prefix h k e = by_next (next_end hash s step st) refl e
      (λ next f x. subst (Known end) (append_assoc prefix (step ∷ []) rest)
      (from_known rest next end (prefix ++ step ∷ [])
      (end_from-step hash s (by_path.at_position (root_standing hash s) s.advert.root) prefix step
      ∙ ap (option_and_then (next_end hash s step)) h ∙ f) (next_known step st next prefix h k f) x))
    where
      by_next : (o : Option PathEnd) → next_end hash s step st ≡ o → option_and_then (λ (next : PathEnd). end_from hash s next rest) o ≡ Some end
          → ((next : PathEnd) → next_end hash s step st ≡ Some next → end_from hash s next rest ≡ Some end
          → Known end (prefix ++ step ∷ rest)) → Known end (prefix ++ step ∷ rest)
      by_next None f x go = cc
      by_next (Some next) f x go = go next f x

  pub known : (path : List PathStep) (end : PathEnd) → end_at hash s path ≡ Some end → Known end path
  known path end e = from_known path (by_path.at_position (root_standing hash s) s.advert.root) end [] refl (by_initial refl refl) e

  pub made_by : (q : List PathStep) (here : Standing) (choice : Contract) → position_at hash s q ≡ Some (here, choice) → MadeBy q here choice
  made_by q here choice h = by_stand (end_at hash s q) refl h
    where
      by_kind : (st : PathEnd) → Known st q → as_position hash s st ≡ Some (here, choice) → MadeBy q here choice
      by_kind (by_path.at_position a c) k e =
          let z : (let p : Standing × Contract = (a, c) in p) ≡ (here, choice) = cc in subst (λ (p : Standing × Contract). MadeBy q p.0 p.1) z k
      by_kind (by_path.at_branch a i b) k e = continued_known a i b (core b) (here, choice) q refl k e

      by_stand : (o : Option PathEnd) → end_at hash s q ≡ o → option_and_then (as_position hash s) o ≡ Some (here, choice) → MadeBy q here choice
      by_stand None f x = cc
      by_stand (Some st) f x = by_kind st (known q st f) x
