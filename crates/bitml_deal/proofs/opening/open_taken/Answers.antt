use Rattle.spec_deal.specs.Answers.{deal_in}
use Rattle.spec_deal.specs.Verifier.{secp256k1}
use Rattle.bitml_deal.proofs.OpeningLemmas.{refused_leads}
use Rattle.bitml_deal.proofs.opening.open_taken.Goals as goal

pub returns-in-Err-clause-leads : goal.returns-in-Err-clause-leads
returns-in-Err-clause-leads g c =
    refused_leads (g.H.Hash32.digest_of c.args.trail.now.hasher) c.args.contract (deal_in secp256k1 c.args.contract c.args.text.now)
    c.args.trail.now.messages c.in-Err.error c.not_taken.result c.in-Err.ensures.gives c.not_taken.ensures
