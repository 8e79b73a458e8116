use Rattle.std.proofs.Common.{◌≡◌, ◌++◌, drop}
use Rattle.bm_translate.specs.Asking.{init_allowed}
use Rattle.bm_translate.proofs.told.allowed_steps.Given as goal

-- what is allowed so far, and by the rest, is all that is allowed
abbrev pub invariant-loop-entry : goal.invariant-loop-entry
invariant-loop-entry l =
    l.made.items ++ init_allowed l.config.deposits l.bindings l.contract l.party (drop l.entry-index l.pre)
    ≡ init_allowed l.config.deposits l.bindings l.contract l.party l.pre
