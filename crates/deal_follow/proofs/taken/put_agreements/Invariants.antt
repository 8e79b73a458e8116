use Rattle.std.proofs.Common.{◌≡◌, ◌++◌, map, drop}
use Rattle.std.specs.Prelude.{filter}
use Rattle.spec_terms.specs.Core.{is_asked}
use Rattle.spec_run.specs.Steps.{auth_branch}
use Rattle.bm_syntax.specs.View.{guarded}
use Rattle.deal_follow.specs.Seen.{step_of}
use Rattle.deal_follow.proofs.taken.put_agreements.Given as goal

abbrev pub invariant-loop-party : goal.invariant-loop-party
invariant-loop-party l =
    let asked = is_asked (guarded l.branch) in
    map step_of l.deeds.items ++ map (auth_branch l.output l.number) (filter asked (drop l.party-index l.parties))
    ≡ map step_of l.initial.deeds.items ++ map (auth_branch l.output l.number) (filter asked l.parties)
