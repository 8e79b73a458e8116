use Rattle.std.proofs.Common.{ap}
use Rattle.deal_command.specs.Seen.{command}
use Rattle.bitml_deal.proofs.LaterLemmas.{refused_reply, taken_reply}
use Rattle.bitml_deal.proofs.answering.deal_reply.Goals as goal

pub returns : goal.returns
returns g c =
    taken_reply (g.H.Hash32.digest_of c.args.hash) (g.H.Hash32.digest_of c.new-trail.result.hasher)
    (g.H.Hash32.digest_of c.open.new.trail.hasher) (command c.args.call.now) c.args.texts.now _ c.in_ok-reply.field-0
    c.in-Taken.compiled c.compiled_reply.result c.requires.deal (ap (λ t. g.H.Hash32.digest_of t.hasher) c.new-trail.ensures)
    (ap g.H.Hash32.digest_of c.in_ok-reply.ensures.hasher) c.in-Taken.is c.in_ok-reply.ensures.leads c.compiled_reply.ensures

pub returns-in-Refused : goal.returns-in-Refused
returns-in-Refused g c =
    refused_reply (g.H.Hash32.digest_of c.args.hash) (g.H.Hash32.digest_of c.new-trail.result.hasher) (command c.args.call.now)
    c.args.texts.now _ c.in_ok-reply.field-0 c.in-Refused.reply c.requires.deal (ap (λ t. g.H.Hash32.digest_of t.hasher) c.new-trail.ensures)
    c.in-Refused.is c.in_ok-reply.ensures.leads
