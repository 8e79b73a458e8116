use Rattle.std.proofs.Common.{Some, None, sym, ap, ◌∙◌}
use Rattle.std.specs.Prelude.{option_map}
use Rattle.deal_follow.proofs.KnownLemmas.{transaction_found}
use Rattle.deal_follow.proofs.known.transaction_of.Goals as goal

pub returns-in-Some : goal.returns-in-Some
returns-in-Some c =
    c.transaction_at.ensures
    ∙ transaction_found c.args.transactions.now c.args.known.now c.args.bytes.now (Some c.in-Some.found.now) c.requires
    (sym (ap (option_map (λ x. x.now)) c.in-Some.is) ∙ c.find.ensures.found)

pub returns-in-None : goal.returns-in-None
returns-in-None c =
    transaction_found c.args.transactions.now c.args.known.now c.args.bytes.now None c.requires
    (sym (ap (option_map (λ x. x.now)) c.in-None.is) ∙ c.find.ensures.found)
