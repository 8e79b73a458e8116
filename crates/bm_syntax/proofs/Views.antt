-- The term of each variant.
use Rattle.std.proofs.Common.{◌≡◌, ℕ, List, [], ◌∷◌, refl, ap, Option, Some, None, option_map, slice_get, Bor, Vec, Box, Global, map, rules}
use Rattle.std.specs.Option.{option_copied}
use Rattle.std.proofs.lemmas.Option.{slice_get-map}
use Rattle.spec_terms.specs.Term.{plus, minus, both, negation, equal, less, Guarded as TermGuarded, auth, after, put_reveal, withdraw, split, Contract as TermContract, branches, parts_list}
use Rattle.bm_syntax.specs.View.{formula, test, guarded, contract, part_view, choice_of, parts_of}
use Rattle.spec_data.specs.declared.name.Name.{Name}
use Rattle.bm_syntax.specs.declared.term.Pred.{Pred, And, Not, Equal, Less, the_lemmas as pred_lemmas}
use Rattle.bm_syntax.specs.declared.term.Part.{Part}
use Rattle.bm_syntax.specs.declared.term.Contract.{Contract}
use Rattle.bm_syntax.specs.declared.term.Expr.{Expr, Plus, Minus, the_lemmas as expr_lemmas}
use Rattle.bm_syntax.specs.declared.term.Guarded.{Guarded, Auth, After, PutReveal, Withdraw, Split, the_lemmas}

pub formula-Plus : (a b : Box Expr Global) → formula (Plus a b) ≡ plus (formula a.value) (formula b.value)
formula-Plus a b = search (rules, expr_lemmas)

pub formula-Minus : (a b : Box Expr Global) → formula (Minus a b) ≡ minus (formula a.value) (formula b.value)
formula-Minus a b = search (rules, expr_lemmas)

pub test-And : (a b : Box Pred Global) → test (And a b) ≡ both (test a.value) (test b.value)
test-And a b = search (rules, pred_lemmas)

pub test-Not : (a : Box Pred Global) → test (Not a) ≡ negation (test a.value)
test-Not a = search (rules, pred_lemmas)

pub test-Equal : (e f : Expr) → test (Equal e f) ≡ equal (formula e) (formula f)
test-Equal e f = search (rules, pred_lemmas)

pub test-Less : (e f : Expr) → test (Less e f) ≡ less (formula e) (formula f)
test-Less e f = search (rules, pred_lemmas)

pub guarded-Auth : (party : Name) (body : Box Guarded Global) → guarded (Auth party body) ≡ auth party (guarded body.value)
guarded-Auth party body = search (rules, the_lemmas)

pub guarded-After : (height : ℕ) (body : Box Guarded Global) → guarded (After height body) ≡ after height (guarded body.value)
guarded-After height body = search (rules, the_lemmas)

pub guarded-PutReveal : (puts reveals : Vec Name Global) (t : Pred) (next : Box Contract Global) → guarded (PutReveal puts reveals t next)
    ≡ put_reveal puts.items reveals.items (test t) (contract next.value)
guarded-PutReveal puts reveals t next = search (rules, the_lemmas)

pub guarded-Withdraw : (party : Name) → guarded (Withdraw party) ≡ withdraw party
guarded-Withdraw party = search (rules, the_lemmas)

pub guarded-Split : (parts : Vec Part Global) → guarded (Split parts) ≡ split (parts_of (map part_view parts.items))
guarded-Split parts = search (rules, the_lemmas)

pub branches-choice_of : (bs : List TermGuarded) → branches (choice_of bs) ≡ bs
branches-choice_of [] = refl
branches-choice_of (b ∷ bs) = ap (λ x. b ∷ x) (branches-choice_of bs)

pub parts_list-parts_of : (ps : List (ℕ × TermContract)) → parts_list (parts_of ps) ≡ ps
parts_list-parts_of [] = refl
parts_list-parts_of (p ∷ ps) = ap (λ x. p ∷ x) (parts_list-parts_of ps)

-- what a reference to an element is seen as
pub seen_at : {X Y : Type 0} (f : X → Y) (xs : List X) (i : ℕ) (r : Option (Bor X)) → option_copied r ≡ slice_get xs i
    → option_map (λ b. f b.now) r ≡ slice_get (map f xs) i
seen_at f xs i None e = rw (slice_get-map, ← e)
seen_at f xs i (Some b) e = rw (slice_get-map, ← e)

pub seen_branch : (c : Contract) (i : ℕ) (r : Option (Bor Guarded)) → option_copied r ≡ slice_get c.branches.items i
    → option_map (λ b. guarded b.now) r ≡ slice_get (branches (contract c)) i
seen_branch c i r e = rw branches-choice_of (seen_at guarded c.branches.items i r e)

pub seen_part : (parts : Vec Part Global) (k : ℕ) (r : Option (Bor Part)) → option_copied r ≡ slice_get parts.items k
    → option_map (λ p. part_view p.now) r ≡ slice_get (parts_list (parts_of (map part_view parts.items))) k
seen_part parts k r e = rw parts_list-parts_of (seen_at part_view parts.items k r e)

-- what each variant is seen as, for `using`
pub ruleset views = (guarded-Auth, guarded-After, guarded-PutReveal, guarded-Withdraw, guarded-Split)
