use Rattle.std.proofs.Common.{◌≡◌, ◌++◌, map, drop}
use Rattle.deal_follow.specs.Seen.{state_in}
use Rattle.deal_missing.specs.Required.{wanted_in}
use Rattle.deal_state.specs.Prospects.{prospect_in, prospects_by}
use Rattle.deal_state.proofs.text.prospects.Given as goal

abbrev pub invariant-loop-which : goal.invariant-loop-which
invariant-loop-which l =
    map prospect_in l.all.items
    ++ prospects_by l.checked l.transactions (map wanted_in l.wanted) l.given l.strings (state_in l.standing) l.tip (drop l.which-index l.asked)
    ≡ prospects_by l.checked l.transactions (map wanted_in l.wanted) l.given l.strings (state_in l.standing) l.tip l.asked
