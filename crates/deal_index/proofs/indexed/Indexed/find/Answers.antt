use Rattle.std.proofs.Common.{◌≡◌, sym, ap, subst, ◌∙◌, Some, None}
use Rattle.std.specs.Prelude.{slice_get, find}
use Rattle.std.specs.Str.{bytes_eq}
use Rattle.deal_index.proofs.Placing.{found_item}
use Rattle.deal_index.proofs.indexed.Indexed.find.Goals as goal

pub returns-in-Some-clause-found : goal.returns-in-Some-clause-found
returns-in-Some-clause-found g c =
    let found = found_item g.T.Keyed.key_of c.args.key.now c.self.inside.items c.self.inside.keys c.self.invariant.1 (Some c.in-Some.place)
    (sym c.in-Some.is ∙ c.find_place.ensures) in
    c.item_at.ensures ∙ ap (λ xs. slice_get xs c.in-Some.place) c.as_slice.ensures
    ∙ subst (λ xs. slice_get c.self.inside.items c.in-Some.place ≡ find (λ x. bytes_eq (g.T.Keyed.key_of x) c.args.key.now) xs) c.self.view_is
    found

pub returns-in-None-clause-found : goal.returns-in-None-clause-found
returns-in-None-clause-found g c =
    subst (λ xs. None ≡ find (λ x. bytes_eq (g.T.Keyed.key_of x) c.args.key.now) xs) c.self.view_is
    (found_item g.T.Keyed.key_of c.args.key.now c.self.inside.items c.self.inside.keys c.self.invariant.1 None
    (sym c.in-None.is ∙ c.find_place.ensures))
