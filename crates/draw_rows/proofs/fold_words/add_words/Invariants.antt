use Rattle.std.proofs.Common.{◌≡◌, drop, map}
use Rattle.spec_terms.specs.Parties.{add_all}
use Rattle.spec_page.specs.Stops.{step_word}
use Rattle.draw_rows.specs.Turns.{turn_of}
use Rattle.draw_rows.proofs.fold_words.add_words.Given as goal

abbrev pub invariant-loop-entry : goal.invariant-loop-entry
invariant-loop-entry l =
    add_all l.words.items (map (λ t. step_word t.event) (map turn_of (drop l.entry-index l.entries)))
    ≡ add_all l.initial.words.items (map (λ t. step_word t.event) (map turn_of l.entries))
