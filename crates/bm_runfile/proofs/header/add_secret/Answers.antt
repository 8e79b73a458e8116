use Rattle.std.proofs.Common.{length}
use Rattle.std.specs.Prelude.{◌&&◌, not, nat_lt}
use Rattle.std.specs.List.{list_any}
use Rattle.spec_data.specs.Lists.{is_among}
use Rattle.spec_terms.specs.Readable.{is_name}
use Rattle.spec_data.specs.Ranges.{most_header_secrets}
use Rattle.spec_text.specs.RunFile.{is_taken, held_secret}
use Rattle.spec_text.specs.declared.run_fault.RunLimit.TheVariants as limits
use Rattle.bm_runfile.specs.Rooms.{with_secret}
use Rattle.bm_runfile.proofs.Spelled.{none_spelled, some_spelled}
use Rattle.bm_runfile.proofs.header.add_secret.Goals as goal

pub returns-in-None : goal.returns-in-None
returns-in-None c =
    let h = c.args.header.now in
    let a = c.args.party.now in
    let s = c.args.name.now in
    let bytes = c.args.bytes.items in
    let x = held_secret a s bytes in
    none_spelled ((is_among a h.honest && is_name s) && not (list_any (is_taken a s bytes) h.secrets)) (nat_lt (length h.secrets) most_header_secrets) limits.Secrets x (with_secret h x) c.in-None.ensures

pub returns-in-Some : goal.returns-in-Some
returns-in-Some c =
    let h = c.args.header.now in
    let a = c.args.party.now in
    let s = c.args.name.now in
    let bytes = c.args.bytes.items in
    some_spelled ((is_among a h.honest && is_name s) && not (list_any (is_taken a s bytes) h.secrets)) (nat_lt (length h.secrets) most_header_secrets) limits.Secrets (held_secret a s bytes) c.in-Some.secret (with_secret h) h c.push_secret.new.header c.push_secret.result c.in-Some.ensures c.push_secret.ensures
