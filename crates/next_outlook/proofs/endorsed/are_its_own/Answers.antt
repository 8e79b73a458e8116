use Rattle.std.proofs.Common.{sym, ap, ◌∙◌}
use Rattle.spec_compiler.specs.Endorsements.{needed}
use Rattle.spec_run.specs.Compiled.{compiled_instance}
use Rattle.spec_run.specs.Signing.{pairs_of_party}
use Rattle.spec_next.specs.Candidates.{are_signed}
use Rattle.bm_compile.specs.Numbered.{numbered}
use Rattle.bm_hash.specs.Messages.{Noted}
use Rattle.bm_world.specs.Playing.{setup_in}
use Rattle.next_outlook.proofs.Endorsing.{nodes_are, pairs_are, endorsed_is}
use Rattle.next_outlook.proofs.endorsed.are_its_own.Goals as goal

pub endorsing_pairs-requires : goal.endorsing_pairs-requires
endorsing_pairs-requires g c =
    let s = setup_in g.H.Hash32.digest_of c.args.world.now in
    nodes_are s c.args.world.now.world c.args.contract c.args.checked.now c.args.compiled.now c.requires.checked c.requires.compiled

pub returns : goal.returns
returns g c =
    let digest = g.H.Hash32.digest_of in
    let s = setup_in digest c.args.world.now in
    let w = c.args.world.now.world in
    let hasher = c.hasher-hasher.ensures ∙ ap (λ (t : Noted _). t.hasher) c.trail.ensures in
    let pairs = pairs_are s w c.args.contract c.args.checked.now c.args.compiled.now c.args.party.now c.in_ok-pairs.pairs.items
    c.requires.checked c.requires.compiled
    (λ i e a b.
    c.in_ok-pairs.ensures.defined i (e ∙ ap (λ h. numbered (digest h) i) (sym hasher)) a b
    ∙ ap (λ h. pairs_of_party c.args.party.now (needed (digest h) i)) hasher) in
    c.are_signed.ensures ∙ (λ i. are_signed (c.book.ensures i) ((c.as_slice.ensures.value ∙ pairs) i))
    ∙ endorsed_is s w (compiled_instance s w c.args.contract) c.args.compiled.now c.args.party.now c.requires.compiled
