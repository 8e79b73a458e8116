use Rattle.std.proofs.Common.{Option, sym, ap, subst}
use Rattle.std.specs.Prelude.{IfOk, option_map}
use Rattle.spec_tool.specs.Reads.{Text}
use Rattle.spec_deal.specs.SecretFile.{SecretsRead}
use Rattle.spec_deal.specs.Setting.{deal_keys, deal_instance}
use Rattle.bitml_deal.specs.Later.{told_by, Tells}
use Rattle.bitml_deal.proofs.StateLemmas.{told_is_first}
use Rattle.bitml_deal.proofs.secrets.strings_in.Goals as goal

pub returns-in-Some-clause-first : goal.returns-in-Some-clause-first
returns-in-Some-clause-first g c = λ hashed.
    let hash = g.H.Hash32.digest_of c.args.trail.now.hasher in
    let keys = deal_keys c.args.compiled.now.deal in
    let s = deal_instance c.args.compiled.now.contract c.args.compiled.now.deal in
    let messages = c.args.trail.now.messages in
    subst (λ (read : SecretsRead). IfOk c.secrets_in.result (Tells read))
    (told_is_first hash keys s messages (option_map (λ text. text.now) c.args.secrets) hashed)
    (subst (λ (o : Option Text). IfOk c.secrets_in.result (Tells (told_by hash s messages o)))
    (sym (ap (option_map (λ text. text.now)) c.in-Some.is)) c.secrets_in.ensures)
