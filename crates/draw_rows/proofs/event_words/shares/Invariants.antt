use Rattle.std.proofs.Common.{◌≡◌, ◌++◌, drop, map}
use Rattle.spec_page.specs.EventWords.{share_text}
use Rattle.draw_rows.proofs.event_words.shares.Given as goal

abbrev pub invariant-loop-party : goal.invariant-loop-party
invariant-loop-party l =
    l.texts.items ++ map share_text (drop l.party-index l.outputs) ≡ map share_text l.outputs
