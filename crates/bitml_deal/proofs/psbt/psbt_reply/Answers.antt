use Rattle.std.proofs.Common.{◌≡◌, sym, ap, subst, ◌∙◌}
use Rattle.std.specs.Prelude.{IfOk, option_map}
use Rattle.spec_compiler.specs.Keyed.Keys.{Keys}
use Rattle.spec_compiler.specs.Keyed.Instance.{Instance}
use Rattle.spec_tool.specs.Commands.{Printed, prints}
use Rattle.spec_tool.specs.Keyed.Listed.{Listed}
use Rattle.spec_tool.specs.PsbtText.{psbt_line}
use Rattle.spec_deal.specs.DealText.{unsigned_psbt}
use Rattle.theory_calculus.proofs.Members.{all_in, found}
use Rattle.spec_tool.specs.Replies.{printed}
use Rattle.deal_compile.specs.Signable.{is_signable}
use Rattle.bitml_deal.specs.Named.{is_named}
use Rattle.bitml_deal.proofs.NamedLemmas.{found_there, not_there, of_there}
use Rattle.bitml_deal.proofs.psbt.psbt_reply.Goals as goal

pub one_reply-requires : goal.one_reply-requires
one_reply-requires c =
    let mem = found (is_named c.args.which.now) c.args.transactions.now c.in-Some.transaction.now
    (sym c.named.ensures ∙ ap (option_map (λ t. t.now)) c.in-Some.is) in
    all_in is_signable c.args.transactions.now c.in-Some.transaction.now c.requires mem.0

pub returns-in-None : goal.returns-in-None
returns-in-None c = λ hash keys s same.
    let answer : Keys → Instance → Listed → Printed = λ keys s l. prints 0 (psbt_line (unsigned_psbt hash keys s.advert l)) in
    subst (λ (p : Printed). IfOk c.no_path.result (λ reply. printed reply ≡ p))
    (sym (not_there hash keys s c.args.which.now c.args.transactions.now same
    (sym (ap (option_map (λ t. t.now)) c.in-None.is) ∙ c.named.ensures) answer))
    c.no_path.ensures

pub returns-in-Some : goal.returns-in-Some
returns-in-Some c = λ hash keys s same.
    let answer : Keys → Instance → Listed → Printed = λ keys s l. prints 0 (psbt_line (unsigned_psbt hash keys s.advert l)) in
    let x = found_there hash keys s c.args.which.now c.args.transactions.now c.in-Some.transaction.now same
    (sym (ap (option_map (λ t. t.now)) c.in-Some.is) ∙ c.named.ensures) in
    subst (λ (p : Printed). IfOk c.one_reply.result (λ reply. printed reply ≡ p))
    (sym (of_there hash keys s c.args.which.now c.in-Some.transaction.now x answer)) (c.one_reply.ensures hash keys s.advert x.l x.made)
