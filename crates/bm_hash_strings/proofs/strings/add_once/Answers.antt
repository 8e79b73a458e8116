use Rattle.std.proofs.Common.{false, ap}
use Rattle.std.specs.Prelude.{is_some}
use Rattle.bm_hash_strings.proofs.Placing.{among_by, once_there, once_new}
use Rattle.bm_hash_strings.proofs.strings.add_once.Goals as goal

pub returns-in-Some-clause-ok : goal.returns-in-Some-clause-ok
returns-in-Some-clause-ok c =
    once_there c.args.strings.now c.add_first.new.strings c.args.string.now c.place_of.result c.in_ok-add_first.field-0
    c.in_ok-add_first.ensures.ok c.if-branch.false c.place_of.ensures c.in-Some.place c.in-Some.is

pub add_other-requires-clause-new : goal.add_other-requires-clause-new
add_other-requires-clause-new c =
    among_by c.add_first.new.strings c.args.string.now c.place_of.result false c.place_of.ensures (ap is_some c.in_default.is)

pub returns-clause-ok : goal.returns-clause-ok
returns-clause-ok c =
    once_new c.args.strings.now c.add_first.new.strings c.args.string.now c.place_of.result c.in_ok-add_first.field-0
    c.in_ok-add_first.ensures.ok c.if-branch.false c.place_of.ensures c.add_other.new.strings c.in_default.is c.in_ok-add_other.ensures.ok
