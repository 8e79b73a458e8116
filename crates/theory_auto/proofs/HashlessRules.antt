-- The event of a rule doesn't hang on what was hashed.
use Rattle.std.proofs.Common.{◌≡◌, ℕ, List, refl}
use Rattle.spec_run.specs.Setup.{Setup}
use Rattle.spec_run.specs.World.{World}
use Rattle.spec_tool.specs.declared.rule.Act.{Act}
use Rattle.spec_tool.specs.declared.rule.Act.TheVariants as acts
use Rattle.spec_tool.specs.declared.rule.Rule.{Rule}
use Rattle.spec_tool.specs.Turns.{act_event, rule_event}

act_same : (s : Setup) (w : World) (hs : List (List ℕ)) (party : List ℕ) (act : Act)
    → act_event s (record w { hashed = hs }) party act ≡ act_event s w party act
act_same s w hs party acts.Commit = refl
act_same s w hs party acts.Endorse = refl
act_same s w hs party acts.Init = refl
act_same s w hs party (acts.Authorise path) = refl
act_same s w hs party (acts.Reveal secret) = refl
act_same s w hs party acts.FireInit = refl
act_same s w hs party (acts.Fire path) = refl

pub rule_same : (s : Setup) (w : World) (hs : List (List ℕ)) (r : Rule) → rule_event s (record w { hashed = hs }) r ≡ rule_event s w r
rule_same s w hs r = act_same s w hs r.party r.act
