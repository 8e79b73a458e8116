use Rattle.std.proofs.Common.{refl, sym}
use Rattle.spec_deal.specs.Setting.{deal_instance}
use Rattle.bitml_deal.proofs.secrets.secrets_of.Goals as goal

pub returns-in-Ok : goal.returns-in-Ok
returns-in-Ok g c =
    c.in-Ok.ensures.behind (deal_instance c.args.compiled.now.contract c.args.compiled.now.deal) refl (sym c.as_slice-hashes.ensures)
