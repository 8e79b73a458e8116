use Rattle.std.proofs.Common.{◌≡◌, rules, true, sym, subst, ◌∙◌}
use Rattle.std.specs.Prelude.{find}
use Rattle.std.specs.Str.{bytes_eq}
use Rattle.spec_deal.specs.declared.entry.Shown.{Shown}
use Rattle.spec_deal.specs.SecretFile.{has_length}
use Rattle.deal_secrets.specs.Gives.{Takes}
use Rattle.deal_secrets.proofs.LinesSay.{new_line, none_found}
use Rattle.deal_secrets.proofs.lines.take_shown.Goals as goal

pub returns-clause-takes : goal.returns-clause-takes
returns-clause-takes g c = λ s judges.
    let hash = g.H.Hash32.digest_of c.args.trail.now.hasher in
    let messages = c.args.trail.now.messages in
    let shown = c.args.shown in
    let taken = c.args.strings.now in
    let earlier = find (λ (x : Shown). bytes_eq x.name shown.name) taken in
    let new = sym c.line_for.ensures ∙ c.in_default.is in
    let long : has_length shown.bytes ≡ true = search rules in
    subst (Takes hash messages c.take_new.new.trail.messages taken c.take_new.new.strings c.take_new.result)
    (sym (new_line hash s messages shown earlier new long))
    (c.take_new.ensures.takes s (judges (none_found earlier new)))
