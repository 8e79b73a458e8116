-- Runs one after another, and authorisations of a move.
use Rattle.std.proofs.Common.{◌≡◌, ℕ, List, [], ◌∷◌, ◌++◌, map, Bool, true, false, not, cond, refl, sym, ap, ◌∙◌, append-nil, inl, inr}
use Rattle.std.specs.List.{filter, list_all}
use Rattle.std.specs.Str.{bytes_eq}
use Rattle.std.specs.Cmp.Lexicographic.{pointwise}
use Rattle.std.proofs.lemmas.Bool.{and_parts, and_from, or_left, or_right, or_cases, eq-eqb}
use Rattle.spec_data.specs.Lists.{AllTrue, is_among}
use Rattle.spec_data.proofs.ListLemmas.{all_true-first_false}
use Rattle.spec_calculus.specs.declared.step.Owner.{Owner}
use Rattle.spec_calculus.specs.declared.step.Owner.TheVariants.{Party, Outside}
use Rattle.spec_calculus.specs.declared.step.Move.{Move}
use Rattle.spec_calculus.specs.declared.step.Step.{Step}
use Rattle.spec_calculus.specs.declared.parts.MoveAuthorisation.{MoveAuthorisation}
use Rattle.spec_calculus.specs.Configuration.{Configuration}
use Rattle.spec_calculus.specs.Same.{owner_eq, output_eq, move_eq}
use Rattle.spec_calculus.specs.Moves.{spends_live, owns_one, has_authorised, with_authorisation, without_move}
use Rattle.spec_calculus.specs.Steps.{premises, fails, effect, after_steps, Legal}
use Rattle.spec_run.specs.Steps.{auth_move}
use Rattle.theory_calculus.proofs.Names.{bytes-true, bytes_refl}
use Rattle.theory_world.proofs.Tests.{filter-append, any-append}

pub passes : (g : Configuration) (step : Step) → AllTrue (premises g step) → fails g step ≡ 0
passes g step h = all_true-first_false 1 (premises g step) h

pub after-append : (g : Configuration) (xs ys : List Step) → after_steps g (xs ++ ys) ≡ after_steps (after_steps g xs) ys
after-append g [] ys = refl
after-append g (x ∷ xs) ys = after-append (effect g x) xs ys

pub legal_append : (g : Configuration) (xs ys : List Step) → Legal g xs → Legal (after_steps g xs) ys → Legal g (xs ++ ys)
legal_append g [] ys h k = k
legal_append g (x ∷ xs) ys h k = (h.0, legal_append (effect g x) xs ys h.1 k)

-- ---- sameness

pub owner_refl : (o : Owner) → owner_eq o o ≡ true
owner_refl (Party a) = bytes_refl a
owner_refl Outside = refl

pub owner-true : (o p : Owner) → owner_eq o p ≡ true → o ≡ p
owner-true (Party a) (Party b) h = ap Party (bytes-true a b h)
owner-true (Party a) Outside h = cc
owner-true Outside (Party b) h = cc
owner-true Outside Outside h = refl

outputs_refl : (os : List (Owner × ℕ)) → pointwise output_eq os os ≡ true
outputs_refl [] = refl
outputs_refl (o ∷ os) = rw (owner_refl o.0, eq-eqb o.1 o.1 refl) (outputs_refl os)

pub move_refl : (m : Move) → move_eq m m ≡ true
move_refl m = and_from _ _ (bytes_refl m.inputs) (outputs_refl m.outputs)

-- ---- authorisations of a move

-- the authorisations with those of these parties
abbrev pub auth_all : List MoveAuthorisation → Move → List (List ℕ) → List MoveAuthorisation
auth_all ms m [] = ms
auth_all ms m (p ∷ ps) = auth_all (with_authorisation ms p m) m ps

pub after-auths : (m : Move) (ps : List (List ℕ)) (g : Configuration) → after_steps g (map (auth_move m) ps)
    ≡ record g { move_authorised = auth_all g.move_authorised m ps }
after-auths m [] g = refl
after-auths m (p ∷ ps) g = after-auths m ps (effect g (auth_move m p))

-- an authorisation that is made is there
made_there : (ms : List MoveAuthorisation) (p : List ℕ) (m : Move) → has_authorised (with_authorisation ms p m) p m ≡ true
made_there ms p m = by_test (has_authorised ms p m) refl
  where
    by_test : (b : Bool) → has_authorised ms p m ≡ b → has_authorised (cond b ms (ms ++ record { party = p; action = m } ∷ [])) p m ≡ true
    by_test true e = e
    by_test false e = any-append _ ms (record { party = p; action = m } ∷ []) ∙ or_right _ _ (or_left _ _ (and_from _ _ (bytes_refl p) (move_refl m)))

-- and those that were there stay
made_more : (ms : List MoveAuthorisation) (p q : List ℕ) (m : Move) → has_authorised ms q m ≡ true → has_authorised (with_authorisation ms p m) q m ≡ true
made_more ms p q m h = by_test (has_authorised ms p m)
  where
    by_test : (b : Bool) → has_authorised (cond b ms (ms ++ record { party = p; action = m } ∷ [])) q m ≡ true
    by_test true = h
    by_test false = any-append _ ms (record { party = p; action = m } ∷ []) ∙ or_left _ _ h

all_more : (ms : List MoveAuthorisation) (m : Move) (ps : List (List ℕ)) (q : List ℕ) → has_authorised ms q m ≡ true
    → has_authorised (auth_all ms m ps) q m ≡ true
all_more ms m [] q h = h
all_more ms m (p ∷ ps) q h = all_more (with_authorisation ms p m) m ps q (made_more ms p q m h)

pub all_there : (ms : List MoveAuthorisation) (m : Move) (ps : List (List ℕ)) (q : List ℕ) → is_among q ps ≡ true → has_authorised (auth_all ms m ps) q m ≡ true
all_there ms m [] q h = cc
all_there ms m (p ∷ ps) q h = elim (or_cases (bytes_eq p q) (is_among q ps) h) [
  | inl a ↦ all_more (with_authorisation ms p m) m ps q (rw (sym (bytes-true p q a)) (made_there ms p m))
  | inr a ↦ all_there (with_authorisation ms p m) m ps q a
]

-- where the move is made they all go
made_gone : (ms : List MoveAuthorisation) (p : List ℕ) (m : Move) → without_move (with_authorisation ms p m) m ≡ without_move ms m
made_gone ms p m = by_test (has_authorised ms p m)
  where
    new : filter (λ (a : MoveAuthorisation). not (move_eq a.action m)) (record { party = p; action = m } ∷ []) ≡ []
    new = rw (move_refl m) refl

    by_test : (b : Bool) → without_move (cond b ms (ms ++ record { party = p; action = m } ∷ [])) m ≡ without_move ms m
    by_test true = refl
    by_test false = filter-append _ ms (record { party = p; action = m } ∷ []) ∙ ap (λ xs. without_move ms m ++ xs) new ∙ append-nil (without_move ms m)

pub all_gone : (ms : List MoveAuthorisation) (m : Move) (ps : List (List ℕ)) → without_move (auth_all ms m ps) m ≡ without_move ms m
all_gone ms m [] = refl
all_gone ms m (p ∷ ps) = all_gone (with_authorisation ms p m) m ps ∙ made_gone ms p m

-- each party owns one of the inputs
pub legal_auths : (m : Move) (ps : List (List ℕ)) (g : Configuration) → spends_live g.deposits m.inputs ≡ true
    → list_all (λ p. owns_one g.deposits m.inputs p) ps ≡ true → Legal g (map (auth_move m) ps)
legal_auths m [] g h k = tt
legal_auths m (p ∷ ps) g h k =
    let q = and_parts (owns_one g.deposits m.inputs p) (list_all (λ x. owns_one g.deposits m.inputs x) ps) k in
    (passes g (auth_move m p) (h, (q.0, tt)), legal_auths m ps (effect g (auth_move m p)) h q.1)
