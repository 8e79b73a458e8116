use Rattle.std.proofs.Common.{◌≡◌, ◌++◌, map, drop}
use Rattle.std.specs.Prelude.{filter}
use Rattle.spec_run.specs.Steps.{auth_branch}
use Rattle.bm_syntax.specs.View.{guarded}
use Rattle.bm_translate.specs.Asking.{awaited}
use Rattle.bm_translate.proofs.contracts.agreements.Given as goal

-- those so far, and those of the rest, are all
abbrev pub invariant-loop-party : goal.invariant-loop-party
invariant-loop-party l =
    l.made.items
    ++ map (auth_branch l.output l.branch) (filter (awaited l.authorised l.output l.branch (guarded l.taken)) (drop l.party-index l.people))
    ≡ map (auth_branch l.output l.branch) (filter (awaited l.authorised l.output l.branch (guarded l.taken)) l.people)
