use Rattle.std.proofs.Common.{◌≡◌, true, false, refl, ap, Result, Err}
use Rattle.bm_keys.specs.declared.reading.LabelError.{LabelError}
use Rattle.bm_keys.specs.declared.reading.LabelError.TheVariants.{Bad}
use Rattle.bm_keys.proofs.LabelLemmas.{branch_read, no_branch_path, no_branch_party}
use Rattle.bm_keys.proofs.reading.branch_label.Goals as goal

pub returns-in-Some-new-clause-ok : goal.returns-in-Some-new-clause-ok
returns-in-Some-new-clause-ok c = branch_read _ _ _ _ _ _ c.in-Some.ensures.some c.in-Ok.ensures.ok c.in-Some-new.ensures.value (c.in-Some-new.ensures.some.0 refl)

pub returns-in-None-clause-bad : goal.returns-in-None-clause-bad
returns-in-None-clause-bad c =
    λ _. no_branch_party _ _ c.in-Ok.rest.now _ _ c.in-Some.ensures.some c.in-Ok.ensures.ok (λ h. let e : false ≡ true = c.in-None.ensures.some.1 h in cc)

again : {A B : Type 0} (x : LabelError) → (let r : Result A LabelError = Err x in r) ≡ Err Bad → (let r : Result B LabelError = Err x in r) ≡ Err Bad
again x e = let same : x ≡ Bad = cc in ap (λ (y : LabelError). Err y) same

pub returns-in-Err-clause-bad : goal.returns-in-Err-clause-bad
returns-in-Err-clause-bad c = λ e. no_branch_path _ c.in-Some.rest.now _ c.in-Some.ensures.some (c.in-Err.ensures.bad (again _ e))
