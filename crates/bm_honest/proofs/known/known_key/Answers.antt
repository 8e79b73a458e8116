use Rattle.std.proofs.Common.{ap, ◌∙◌}
use Rattle.std.specs.Option.{option_and_then}
use Rattle.spec_terms.specs.Parties.{participants}
use Rattle.bm_honest.specs.Beside.{key_beside}
use Rattle.bm_honest.proofs.Planned.{planned}
use Rattle.bm_honest.proofs.known.known_key.Goals as goal

pub returns-clause-listed : goal.returns-clause-listed
returns-clause-listed c =
    (rw c.parties.ensures at c.key_beside.ensures)
    ∙ ap (option_and_then (key_beside c.args.party.now (participants c.args.checked.now))) c.in_ok-keys.ensures.by_list

pub returns-clause-defined : goal.returns-clause-defined
returns-clause-defined c = λ hash s is number text.
    rw (c.key_beside.ensures, c.parties.ensures)
    (planned hash s c.args.contract c.args.checked.now c.args.party.now c.args.path.now c.in_ok-keys.keys.now _
    (c.in_ok-keys.ensures.compiled hash s is) number text)
