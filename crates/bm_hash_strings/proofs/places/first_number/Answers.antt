use Rattle.std.proofs.Common.{◌∙◌}
use Rattle.bm_hash_strings.proofs.Fingerprints.{first_long, first_short}
use Rattle.bm_hash_strings.proofs.places.first_number.Goals as goal

pub returns-in-Some : goal.returns-in-Some
returns-in-Some c =
    c.from_le_bytes.ensures
    ∙ first_long c.args.string.now c.in-Some.first.now c.in-Some.ensures.cases.enough c.in-Some.ensures.cases.same

pub returns-in-None : goal.returns-in-None
returns-in-None c = first_short c.args.string.now c.in-None.ensures.cases
