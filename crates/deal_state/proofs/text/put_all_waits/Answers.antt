use Rattle.std.proofs.Common.{◌≡◌, ℕ, ◌+◌, ◌<◌, List, ◌∷◌, ◌++◌, Bool, true, false, cond, map, drop, length, get_or, refl, sym, ap, ◌∙◌, append_assoc}
use Rattle.std.specs.Prelude.{filter}
use Rattle.std.specs.List.{flat_map}
use Rattle.std.proofs.lemmas.List.{drop_more}
use Rattle.spec_chain.specs.StateText.{waits_line}
use Rattle.deal_state.specs.Prospects.{prospect_in, is_awaited_by, waits_if}
use Rattle.deal_state.proofs.text.put_all_waits.Goals as goal

module _ (test : List ℕ → Bool) where
  abbrev lines : List (List ℕ) → List ℕ
  lines parties = flat_map waits_line (filter test parties)

  line_by : (b : Bool) (party : List ℕ) (more : List (List ℕ))
      → waits_if b party ++ lines more ≡ flat_map waits_line (cond b (party ∷ filter test more) (filter test more))
  line_by true party more = refl
  line_by false party more = refl

  next_line : (parties : List (List ℕ)) (i : ℕ) (party : List ℕ) (before after : List ℕ) → i < length parties
      → party ≡ get_or parties i party → after ≡ before ++ waits_if (test party) party
      → after ++ lines (drop (i + 1) parties) ≡ before ++ lines (drop i parties)
  next_line parties i party before after less here put =
      let more = drop (i + 1) parties in
      ap (λ (text : List ℕ). text ++ lines more) put
      ∙ append_assoc before (waits_if (test party) party) (lines more)
      ∙ ap (λ (text : List ℕ). before ++ text) (line_by (test party) party more)
      ∙ ap (λ (p : List ℕ). before ++ lines (p ∷ more)) here
      ∙ ap (λ (left : List (List ℕ)). before ++ lines left) (sym (drop_more parties i party less))

pub loop-party-preserved : goal.loop-party-preserved
loop-party-preserved c =
    next_line (is_awaited_by (map prospect_in c.args.prospects.now)) c.args.parties.now
    c.loop-party.party-index c.party-item.result c.loop-party.out.items c.put_awaited.new.out.items c.loop-party-test.true c.party-item.is
    c.in_ok-put_awaited.ensures
    ∙ c.loop-party.invariant
