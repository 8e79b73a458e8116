use Rattle.std.proofs.Common.{ℕ, List, ◌++◌, map, ap, ◌∙◌}
use Rattle.spec_terms.specs.Parties.{participants}
use Rattle.spec_deal.specs.declared.entry.Shown.{Shown}
use Rattle.deal_missing.specs.Required.{Required, required, wanted_in}
use Rattle.deal_secrets.specs.Seen.{shown_by}
use Rattle.deal_follow.specs.Seen.{course_in, state_in}
use Rattle.deal_state.specs.Prospects.{Chance, prospect_in, prospects_by, state_by, asked_by}
use Rattle.deal_state.proofs.text.text_by.Goals as goal

pub returns : goal.returns
returns c = λ messages.
    let advert = c.args.checked.now in
    let course = course_in messages c.args.course.now in
    let state = state_in c.args.course.now.standing in
    let by = prospects_by advert c.args.transactions.now in
    let needed = required c.args.transactions.now in
    let given = c.args.given.now in
    c.in_ok-put_state.ensures messages
    ∙ ap (λ (start : List ℕ).
    start ++ state_by advert (participants advert) course c.args.tip c.in_ok-all.all (map prospect_in c.deref-4.result.now)) c.new-out.ensures.items
    ∙ ap (λ (ps : List Chance). state_by advert (participants advert) course c.args.tip c.in_ok-all.all ps)
    (ap (map prospect_in) c.deref-4.ensures.value
    ∙ c.in_ok-prospects.ensures
    ∙ ap
    (λ (ws : List Required). by ws given c.in_ok-all.all state c.args.tip c.deref-3.result.now)
    (ap (map wanted_in) c.deref-2.ensures.value ∙ c.in_ok-wanted.ensures)
    ∙ ap (by needed given c.in_ok-all.all state c.args.tip) (c.deref-3.ensures.value ∙ c.in_ok-asked.ensures))
    ∙ ap (λ (strings : List Shown).
    state_by advert (participants advert) course c.args.tip strings (by needed given strings state c.args.tip (asked_by advert state)))
    (c.in_ok-all.ensures ∙ ap (λ (shown : List (List ℕ × List ℕ)). map shown_by shown ++ c.args.strings.now) c.deref.ensures.value)
