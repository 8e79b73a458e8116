use Rattle.std.proofs.Common.{◌≡◌, ◌++◌, drop}
use Rattle.spec_page.specs.Outlooks.{commit_words}
use Rattle.draw_rows.specs.Settings.{setup_in}
use Rattle.draw_rows.proofs.openings.put_commits.Given as goal

abbrev pub invariant-loop-party : goal.invariant-loop-party
invariant-loop-party l =
    l.found.items ++ commit_words (setup_in l.setting) l.config l.contract (drop l.party-index l.people)
    ≡ l.initial.found.items ++ commit_words (setup_in l.setting) l.config l.contract l.people
