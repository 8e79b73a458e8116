use Rattle.std.proofs.Common.{length}
use Rattle.std.specs.Prelude.{◌&&◌, not, nat_lt}
use Rattle.spec_data.specs.Lists.{is_among}
use Rattle.spec_terms.specs.Readable.{is_name}
use Rattle.spec_data.specs.Ranges.{most_parties}
use Rattle.spec_text.specs.declared.run_fault.RunLimit.TheVariants as limits
use Rattle.bm_runfile.specs.Rooms.{with_party}
use Rattle.bm_runfile.proofs.Spelled.{none_spelled, some_spelled}
use Rattle.bm_runfile.proofs.header.add_party.Goals as goal

pub returns-in-None : goal.returns-in-None
returns-in-None c =
    let h = c.args.header.now in
    let w = c.args.word.now in
    none_spelled (is_name w && not (is_among w h.parties)) (nat_lt (length h.parties) most_parties) limits.Parties w (with_party h w) c.in-None.ensures

pub returns-in-Some : goal.returns-in-Some
returns-in-Some c =
    let h = c.args.header.now in
    let w = c.args.word.now in
    some_spelled (is_name w && not (is_among w h.parties)) (nat_lt (length h.parties) most_parties) limits.Parties w c.in-Some.name (with_party h) h c.push_party.new.header c.push_party.result c.in-Some.ensures c.push_party.ensures
