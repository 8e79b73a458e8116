-- What stands at the end of a path: further steps, the branch of the term, the place of its name.
use Rattle.std.proofs.Common.{◌≡◌, ℕ, List, [], ◌∷◌, ◌++◌, Option, Some, None, refl, sym, ap, ◌∙◌}
use Rattle.std.specs.Prelude.{slice_get, option_map, option_and_then}
use Rattle.spec_terms.specs.Term as term
use Rattle.spec_terms.specs.Term.{Contract, branches, Parts, parts_list, put_reveal, split}
use Rattle.spec_terms.specs.Core.{core}
use Rattle.spec_terms.specs.Paths as terms
use Rattle.spec_terms.specs.Paths.{Subterm, subterm_from, as_branch, at, contract_under}
use Rattle.spec_terms.specs.declared.path.PathStep.{PathStep}
use Rattle.spec_terms.specs.declared.path.PathStep.TheVariants.{Branch as To, Part as Into}
use Rattle.spec_compiler.specs.Instance.{Instance, branch_path}
use Rattle.spec_compiler.specs.Transactions.{Standing, continued_value, branch_unsigned, continued, part_standing, root_standing}
use Rattle.spec_compiler.specs.ByPath as by_path
use Rattle.spec_compiler.specs.ByPath.{PathEnd, branch_end, continued_end, part_end, next_end, end_at, as_position, as_unsigned, position_at, unsigned_at}
use Rattle.theory_script.proofs.Listing.Stands.{end_from-step, IfAgrees, agrees_at, position_stands}

module _ (hash : List ℕ → List ℕ) (s : Instance) where
  -- ---- one step further

  -- the branches of a position
  to_branch : (st : PathEnd) (here : Standing) (choice : Contract) (i : ℕ) → as_position hash s st ≡ Some (here, choice)
      → next_end hash s (To i) st ≡ branch_end here choice i
  to_branch (by_path.at_position h c) here choice i e =
      let z : (let q : Standing × Contract = (h, c) in q) ≡ (here, choice) = cc in
      λ j. branch_end (z j).0 (z j).1 i
  to_branch (by_path.at_branch h k b) here choice i e = ap (option_and_then (λ (p : Standing × Contract). branch_end p.0 p.1 i)) e

  pub branch_at_position : (q : List PathStep) (here : Standing) (choice : Contract) (i : ℕ) → position_at hash s q ≡ Some (here, choice)
      → end_at hash s (q ++ To i ∷ []) ≡ branch_end here choice i
  branch_at_position q here choice i h = end_from-step hash s (by_path.at_position (root_standing hash s) s.advert.root) q (To i) ∙ by_stand (end_at hash s q) h
    where
      by_stand : (o : Option PathEnd) → option_and_then (as_position hash s) o ≡ Some (here, choice)
          → option_and_then (next_end hash s (To i)) o ≡ branch_end here choice i
      by_stand None e = cc
      by_stand (Some st) e = to_branch st here choice i e

  pub stand_of_branch : (q : List PathStep) (here : Standing) (choice : Contract) (i : ℕ) (b : term.Guarded) → position_at hash s q
      ≡ Some (here, choice) → slice_get (branches choice) i ≡ Some b → end_at hash s (q ++ To i ∷ []) ≡ Some (by_path.at_branch here i b)
  stand_of_branch q here choice i b h e = branch_at_position q here choice i h ∙ ap (option_map (by_path.at_branch here i)) e

  -- its transaction
  pub unsigned_of_branch : (q : List PathStep) (here : Standing) (choice : Contract) (i : ℕ) (b : term.Guarded) → position_at hash s q
      ≡ Some (here, choice) → slice_get (branches choice) i ≡ Some b → unsigned_at hash s (q ++ To i ∷ []) ≡ Some (branch_unsigned hash s here i b)
  unsigned_of_branch q here choice i b h e = ap (option_and_then (as_unsigned hash s)) (stand_of_branch q here choice i b h e)

  -- the position at which a put goes on
  pub put_position : (q : List PathStep) (here : Standing) (choice : Contract) (i : ℕ) (b : term.Guarded) (puts reveals : List (List ℕ))
      (test : term.Pred) (next : Contract) → position_at hash s q ≡ Some (here, choice) → slice_get (branches choice) i ≡ Some b → core b
      ≡ put_reveal puts reveals test next
      → position_at hash s (q ++ To i ∷ []) ≡ Some
      (continued hash s (branch_path here.position i) (branch_unsigned hash s here i b) (continued_value s here.output.value puts) next, next)
  put_position q here choice i b puts reveals test next h e c =
      ap (option_and_then (as_position hash s)) (stand_of_branch q here choice i b h e) ∙ ap (continued_end hash s here i b) c

  -- the position of a part
  pub split_position : (q : List PathStep) (here : Standing) (choice : Contract) (i k : ℕ) (b : term.Guarded) (ps : Parts)
      (p : ℕ × Contract) → position_at hash s q ≡ Some (here, choice) → slice_get (branches choice) i ≡ Some b → core b ≡ split ps
      → slice_get (parts_list ps) k ≡ Some p
      → position_at hash s ((q ++ To i ∷ []) ++ Into k ∷ [])
      ≡ Some (part_standing hash s (branch_path here.position i) (branch_unsigned hash s here i b) k p.0 p.1, p.1)
  split_position q here choice i k b ps p h e c g =
      ap (option_and_then (as_position hash s))
      (end_from-step hash s (by_path.at_position (root_standing hash s) s.advert.root) (q ++ To i ∷ []) (Into k)
      ∙ ap (option_and_then (next_end hash s (Into k))) (stand_of_branch q here choice i b h e) ∙ ap (part_end hash s here i b k) c
      ∙ ap (option_map (λ (p : ℕ × Contract). by_path.at_position
      (part_standing hash s (branch_path here.position i) (branch_unsigned hash s here i b) k p.0 p.1) p.1)) g)

  -- ---- terms

  -- a position stands at its own name
  pub position_named : (q : List PathStep) (here : Standing) (choice : Contract) → position_at hash s q ≡ Some (here, choice) → here.position ≡ q
  position_named q here choice h = (position_stands hash s q here choice h).path

  abbrev view : PathEnd → Subterm
  view (by_path.at_position here choice) = terms.position choice
  view (by_path.at_branch here i b) = terms.at_branch b

  view_agrees : (path : List PathStep) (o : Option PathEnd) (u : Option Subterm) → IfAgrees hash s path o u → u ≡ option_map view o
  view_agrees path None None h = refl
  view_agrees path None (Some q) h = absurd h
  view_agrees path (Some p) None h = absurd h
  view_agrees path (Some (by_path.at_position here choice)) (Some (terms.position c)) h = ap (λ x. Some (terms.position x)) (sym h.1)
  view_agrees path (Some (by_path.at_position here choice)) (Some (terms.at_branch b)) h = absurd h
  view_agrees path (Some (by_path.at_branch here i d)) (Some (terms.position c)) h = absurd h
  view_agrees path (Some (by_path.at_branch here i d)) (Some (terms.at_branch b)) h = ap (λ x. Some (terms.at_branch x)) (sym h.1)

  pub view_at : (path : List PathStep) → subterm_from (terms.position s.advert.root) path ≡ option_map view (end_at hash s path)
  view_at path = view_agrees path (end_at hash s path) (subterm_from (terms.position s.advert.root) path) (agrees_at hash s path)

  -- the branch of a path in the term
  pub term_branch : (path : List PathStep) (here : Standing) (i : ℕ) (b : term.Guarded) → end_at hash s path
      ≡ Some (by_path.at_branch here i b) → at s.advert.root path ≡ Some b
  term_branch path here i b h = ap (option_and_then as_branch) (view_at path ∙ ap (option_map view) h)

  -- the branches of a position in the term
  pub term_branches : (q : List PathStep) (here : Standing) (choice : Contract) (i : ℕ) → position_at hash s q ≡ Some (here, choice)
      → at s.advert.root (q ++ To i ∷ []) ≡ slice_get (branches choice) i
  term_branches q here choice i h =
      ap (option_and_then as_branch) (view_at (q ++ To i ∷ []) ∙ ap (option_map view) (branch_at_position q here choice i h))
      ∙ by_branch (slice_get (branches choice) i)
    where
      by_branch : (o : Option term.Guarded) → option_and_then as_branch (option_map view (option_map (by_path.at_branch here i) o)) ≡ o
      by_branch None = refl
      by_branch (Some b) = refl

  -- the choice of a position in the term
  pub term_choice : (q : List PathStep) (here : Standing) (choice : Contract) → position_at hash s q ≡ Some (here, choice)
      → contract_under s.advert.root q ≡ Some choice
  term_choice q here choice h = (position_stands hash s q here choice h).branches

  -- the root
  pub root_position : position_at hash s [] ≡ Some (root_standing hash s, s.advert.root)
  root_position = refl
