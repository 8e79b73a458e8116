use Rattle.std.proofs.Common.{sym, ap, ◌∙◌}
use Rattle.std.specs.Prelude.{option_map}
use Rattle.deal_compile.proofs.Hashing.{hash_or, found_hash}
use Rattle.deal_compile.proofs.programs.hash_of.Goals as goal

pub returns-in-Some : goal.returns-in-Some
returns-in-Some g c =
    let hash = g.H.Hash32.digest_of c.args.hasher.now in
    ap (λ o. hash_or hash o (hash c.args.script.now)) (sym (ap (option_map (λ x. x.now)) c.in-Some.is) ∙ c.find.ensures.found)
    ∙ found_hash hash c.args.programs.now c.args.script.now c.requires
