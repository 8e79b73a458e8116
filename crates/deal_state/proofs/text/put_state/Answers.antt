use Rattle.std.proofs.Common.{◌≡◌, ℕ, List, ◌++◌, map, ap, ◌∙◌, append_assoc}
use Rattle.std.proofs.lemmas.Result.{on_ok_weaker}
use Rattle.std.specs.List.{flat_map}
use Rattle.spec_terms.specs.Advert.{Advert}
use Rattle.spec_terms.specs.Parties.{participants}
use Rattle.spec_terms.specs.Precondition.{secrets, names_of}
use Rattle.spec_terms.specs.declared.pre.Pre.{Pre}
use Rattle.spec_deal.specs.SecretFile.{string_for}
use Rattle.spec_chain.specs.StateText.{string_line, height_line, past_text}
use Rattle.deal_follow.specs.Seen.{course_in}
use Rattle.deal_state.specs.Prospects.{prospect_in, future_text}
use Rattle.deal_state.proofs.text.put_state.Goals as goal

-- four texts, one behind the other
four : (start first second third fourth a b c d : List ℕ) → first ≡ start ++ a → second ≡ first ++ b → third ≡ second ++ c
    → fourth ≡ third ++ d → fourth ≡ start ++ (a ++ (b ++ (c ++ d)))
four start first second third fourth a b c d is_first is_second is_third is_fourth =
    is_fourth
    ∙ ap (λ (text : List ℕ). text ++ d) (is_third ∙ ap (λ (text : List ℕ). text ++ c) (is_second ∙ ap (λ (text : List ℕ). text ++ b) is_first))
    ∙ append_assoc ((start ++ a) ++ b) c d
    ∙ append_assoc (start ++ a) b (c ++ d)
    ∙ append_assoc start a (b ++ (c ++ d))

pub returns : goal.returns
returns c = λ messages.
    on_ok_weaker c.put_future.result
    (λ e.
    four c.args.out.now.items c.put_past.new.out.items c.put_secrets.new.out.items c.put_height.new.out.items c.put_future.new.out.items
    (past_text (course_in messages c.args.course.now))
    (flat_map (λ name. string_line name (string_for c.args.strings.now name)) (names_of (secrets c.args.checked.now.pre)))
    (height_line c.args.tip) (future_text (participants c.args.checked.now) (map prospect_in c.args.prospects.now))
    (c.in_ok-put_past.ensures messages)
    (c.in_ok-put_secrets.ensures
    ∙ ap (λ (pre : List Pre).
    c.put_past.new.out.items ++ flat_map (λ name. string_line name (string_for c.args.strings.now name)) (names_of (secrets pre)))
    (c.deref.ensures.value ∙ ap (λ (a : Advert). a.pre) (c.behind-checked.view_is ∙ c.advert.ensures.value)))
    c.in_ok-put_height.ensures
    (e
    ∙ ap (λ (people : List (List ℕ)). c.put_height.new.out.items ++ future_text people (map prospect_in c.args.prospects.now))
    c.parties.ensures))
    c.put_future.ensures
