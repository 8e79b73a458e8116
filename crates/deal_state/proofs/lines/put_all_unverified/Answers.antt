use Rattle.std.proofs.Common.{◌≡◌, ℕ, ◌+◌, ◌<◌, List, ◌∷◌, ◌++◌, drop, length, get_or, sym, ap, ◌∙◌, append_assoc}
use Rattle.std.specs.List.{flat_map}
use Rattle.std.proofs.lemmas.List.{drop_more}
use Rattle.deal_state.specs.declared.signatures.Unverified.{Unverified}
use Rattle.deal_state.specs.Lines.{unverified_text}
use Rattle.deal_state.proofs.lines.put_all_unverified.Goals as goal

module _ (text : Unverified → List ℕ) where
  next_line : (all : List Unverified) (i : ℕ) (u : Unverified) (before after : List ℕ) → i < length all
      → u ≡ get_or all i u → after ≡ before ++ text u → after ++ flat_map text (drop (i + 1) all) ≡ before ++ flat_map text (drop i all)
  next_line all i u before after less here put =
      let more = drop (i + 1) all in
      ap (λ (t : List ℕ). t ++ flat_map text more) put
      ∙ append_assoc before (text u) (flat_map text more)
      ∙ ap (λ (v : Unverified). before ++ flat_map text (v ∷ more)) here
      ∙ ap (λ (left : List Unverified). before ++ flat_map text left) (sym (drop_more all i u less))

pub loop-unverified-preserved : goal.loop-unverified-preserved
loop-unverified-preserved c =
    next_line unverified_text c.args.all.now c.loop-unverified.unverified-index c.unverified-item.result c.loop-unverified.out.items
    c.put_unverified.new.out.items c.loop-unverified-test.true c.unverified-item.is c.in_ok-put_unverified.ensures
    ∙ c.loop-unverified.invariant
