use Rattle.std.proofs.Common.{◌≡◌, length, List, [], ◌∷◌, Bool, refl, sym, ◌∙◌}
use Rattle.bm_interp.proofs.running.is_true_end.Goals as goal

nothing_in : (xs : List Bool) → length xs ≡ 0 → xs ≡ []
nothing_in [] h = refl
nothing_in (x ∷ xs) h = cc

pub returns-then-len-eq0 : goal.returns-then-len-eq0
returns-then-len-eq0 c hash valid alt =
    rw (nothing_in c.args.conditions.now (sym c.len.ensures ∙ c.if-len-eq0.true)) (c.has_succeeded.ensures alt)
