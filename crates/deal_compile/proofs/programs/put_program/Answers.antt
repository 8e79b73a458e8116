use Rattle.std.proofs.Common.{◌≡◌, sym, ap, ◌∙◌}
use Rattle.deal_compile.proofs.Hashing.{hashed_push_ok}
use Rattle.deal_compile.proofs.programs.put_program.Goals as goal

pub returns : goal.returns
returns g c =
    let hash = g.H.Hash32.digest_of c.args.hasher.now in
    let own : c.hash32.result ≡ hash c.in_ok-copy.field-0 = c.hash32.ensures ∙ ap hash (c.as_slice-2.ensures ∙ sym c.in_ok-copy.ensures) in
    hashed_push_ok hash c.push.result c.args.programs.now c.push.new.self (record { script = c.in_ok-copy.field-0; hash = c.hash32.result })
    c.requires own c.push.ensures.ok
