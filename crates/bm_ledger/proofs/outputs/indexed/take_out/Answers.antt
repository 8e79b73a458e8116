use Rattle.std.proofs.Common.{◌≡◌, ◌∙◌, ◌<◌, ℕ, true, Option, Some, None, sym, subst}
use Rattle.std.specs.Prelude.{is_some, OnSome}
use Rattle.bm_ledger.proofs.Indexing.{taken, untaken, removed}
use Rattle.bm_ledger.proofs.outputs.indexed.take_out.Goals as goal

on_some : {X : Type 0} (r : Option X) (P : Type 0) → is_some r ≡ true → OnSome r P → P
on_some None P h k = cc
on_some (Some x) P h k = k

pub returns-in-Some-clause-removed : goal.returns-in-Some-clause-removed
returns-in-Some-clause-removed c =
    let t = taken _ c.args.entries.now.items c.args.place.now c.in-Some.number c.place_of_number-index.result c.requires.indexed
    (sym c.in-Some.ensures.value) c.place_of_number-index.ensures in
    let within = subst (λ (n : ℕ). c.place_of_number-index.result < n) (sym c.args.entries.now.ok.0) t.0 in
    on_some c.remove.result _ (c.remove.ensures.variant.1 within) c.remove.ensures.items ∙ t.1

pub returns-in-Some-clause-indexed : goal.returns-in-Some-clause-indexed
returns-in-Some-clause-indexed c =
    rw (returns-in-Some-clause-removed c) (removed _ _ c.args.entries.now.items c.args.place.now c.requires.indexed c.in-Some.ensures.updates.0)

pub returns-clause-removed : goal.returns-clause-removed
returns-clause-removed c = untaken _ c.args.entries.now.items c.args.place.now c.requires.indexed (sym c.swap_remove.ensures.value ∙ c.in_default.is)
