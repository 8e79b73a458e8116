use Rattle.std.proofs.Common.{◌≡◌, List, ℕ, map, ap, subst, ◌∙◌}
use Rattle.std.specs.Prelude.{IfOk}
use Rattle.spec_terms.specs.Advert.{Advert}
use Rattle.spec_terms.specs.Precondition.{secrets}
use Rattle.spec_terms.specs.declared.pre.Pre.{Pre}
use Rattle.deal_follow.specs.Boards.{setting}
use Rattle.deal_follow.specs.Seen.{state_in, item_in}
use Rattle.deal_follow.specs.Showing.{secrets_by, strings_by}
use Rattle.deal_follow.proofs.ShowLemmas.{newly_are, strings_newly}
use Rattle.deal_follow.proofs.showing.shown_by.Goals as goal

pub returns-clause-secrets : goal.returns-clause-secrets
returns-clause-secrets c hash tx are =
    let s = setting c.args.board.now in
    let state = state_in c.args.standing.now in
    let items = map item_in c.args.items.now in
    let pre = c.deref.ensures.value ∙ ap (λ (a : Advert). a.pre) (c.behind-board.view_is ∙ c.advert.ensures.value) in
    subst (λ (ps : List (List ℕ × List ℕ)). IfOk c.all_shown.result (λ x. x.secrets.items ≡ ps))
    (ap (λ (es : List Pre). secrets_by s.hashes state.shown items (secrets es)) pre ∙ newly_are hash s state tx items are)
    c.all_shown.ensures.secrets

pub returns-clause-strings : goal.returns-clause-strings
returns-clause-strings c hash tx are =
    let s = setting c.args.board.now in
    let state = state_in c.args.standing.now in
    let items = map item_in c.args.items.now in
    let pre = c.deref.ensures.value ∙ ap (λ (a : Advert). a.pre) (c.behind-board.view_is ∙ c.advert.ensures.value) in
    subst (λ (ps : List (List ℕ × List ℕ)). IfOk c.all_shown.result (λ x. x.strings.items ≡ ps))
    (ap (λ (es : List Pre). strings_by s.hashes state.shown items (secrets es)) pre ∙ strings_newly hash s state tx items are)
    c.all_shown.ensures.strings
