use Rattle.std.proofs.Common.{◌≡◌, ◌++◌, map, drop}
use Rattle.spec_terms.specs.Precondition.{secrets}
use Rattle.deal_follow.specs.Boards.{setting}
use Rattle.deal_follow.specs.Seen.{item_in}
use Rattle.deal_follow.specs.Showing.{secrets_by, strings_by}
use Rattle.deal_follow.proofs.showing.all_shown.Given as goal

abbrev pub invariant-loop-entry : goal.invariant-loop-entry
invariant-loop-entry l =
    let hashes = (setting l.board).hashes in
    let items = map item_in l.items in
    record {
      parties : l.shown.items ++ secrets_by hashes l.standing.shown.items items (secrets (drop l.entry-index l.pre))
          ≡ secrets_by hashes l.standing.shown.items items (secrets l.pre);
      strings : l.strings.items ++ strings_by hashes l.standing.shown.items items (secrets (drop l.entry-index l.pre))
          ≡ strings_by hashes l.standing.shown.items items (secrets l.pre);
    }
