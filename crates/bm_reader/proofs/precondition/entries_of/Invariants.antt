use Rattle.std.proofs.Common.{◌≡◌, ◌+◌}
use Rattle.spec_terms.specs.Readable.{most_deposits, most_secrets}
use Rattle.spec_text.specs.ReadAdvert.{entries_at}
use Rattle.bm_reader.specs.Entries.{room, with_entries}
use Rattle.bm_reader.proofs.precondition.entries_of.Given as goal

abbrev pub invariant-loop-entries : goal.invariant-loop-entries
invariant-loop-entries l = with_entries l.entries.items (entries_at (l.space.deposits + l.space.secrets) (room l.space) l.rest)
    ≡ entries_at (most_deposits + most_secrets) (most_deposits, most_secrets) l.lexemes

abbrev pub decreases-loop-entries : goal.decreases-loop-entries
decreases-loop-entries l = l.space.deposits + l.space.secrets
