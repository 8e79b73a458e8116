use Rattle.std.proofs.Common.{◌≡◌, ◌++◌, drop}
use Rattle.bm_translate.specs.Asking.{init_missing}
use Rattle.bm_translate.proofs.contracts.missing_steps.Given as goal

-- what is missing so far, and what the rest misses, is all that is missing
abbrev pub invariant-loop-entry : goal.invariant-loop-entry
invariant-loop-entry l =
    l.made.items ++ init_missing l.authorised l.contract (drop l.entry-index l.pre)
    ≡ init_missing l.authorised l.contract l.pre
