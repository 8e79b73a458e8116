use Rattle.std.proofs.Common.{[], sym, ap, subst, ◌∙◌, if◌then◌else◌}
use Rattle.spec_text.specs.Lines.{lines_of}
use Rattle.spec_data.specs.Messages.{noted_all}
use Rattle.spec_deal.specs.Hashed.{deal_strings}
use Rattle.spec_deal.specs.SecretFile.{read_lines, refused}
use Rattle.spec_deal.specs.declared.fault.SecretFault.TheVariants as faults
use Rattle.bm_hash.specs.Messages.{evidence_of}
use Rattle.deal_secrets.specs.Gives.{Gives}
use Rattle.deal_secrets.proofs.Hashing.{hashed_first}
use Rattle.deal_secrets.proofs.LinesSay.{not_longer}
use Rattle.deal_secrets.proofs.reading.read_secrets.Goals as goal

pub returns-clause-behind : goal.returns-clause-behind
returns-clause-behind g c = λ s advert hashes.
    let hash = g.H.Hash32.digest_of c.args.trail.now.hasher in
    let lines = lines_of c.args.text.now in
    subst (Gives (evidence_of hash c.read_lines.new.trail.messages) c.read_lines.result)
    (sym (ap (λ b. if b then refused faults.Size else read_lines hash s c.args.trail.now.messages [] 1 lines)
    (not_longer 1048576 c.args.text.now c.if-text-gt-MOST_SECRETS_BYTES.false)))
    (c.read_lines.ensures.gives s advert hashes)

pub returns-clause-gives : goal.returns-clause-gives
returns-clause-gives g c = λ keys s advert hashes hashed.
    let hash = g.H.Hash32.digest_of c.args.trail.now.hasher in
    let strings = deal_strings hash keys s in
    let lines = lines_of c.args.text.now in
    subst (Gives (evidence_of hash c.read_lines.new.trail.messages) c.read_lines.result)
    (ap (λ ms. read_lines hash s ms [] 1 lines) (hashed_first hash c.args.trail.now.messages strings hashed)
    ∙ sym (ap (λ b. if b then refused faults.Size else read_lines hash s (noted_all [] strings) [] 1 lines)
    (not_longer 1048576 c.args.text.now c.if-text-gt-MOST_SECRETS_BYTES.false)))
    (c.read_lines.ensures.gives s advert hashes)
