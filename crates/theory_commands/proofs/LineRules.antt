-- The words of a line of a strategy are read as the rule that they spell, and only as that.
use Rattle.std.proofs.Common.{◌≡◌, ℕ, true, List, [], ◌∷◌, Option, Some, None, refl, sym, ap, subst, ◌∙◌}
use Rattle.std.specs.Prelude.{codes}
use Rattle.std.specs.Str.{bytes_eq}
use Rattle.spec_run.specs.declared.header.Header.{Header}
use Rattle.spec_text.specs.Words.{◌>>=◌, one_of, a_name, path}
use Rattle.spec_tool.specs.declared.rule.Act.{Act}
use Rattle.spec_tool.specs.declared.rule.Act.TheVariants as acts
use Rattle.spec_tool.specs.declared.rule.Rule.{Rule}
use Rattle.spec_tool.specs.Strategy.{contract_word, alone, authorise_act, reveal_act, fire_act, act_by, rule, rule_of}
use Rattle.theory_text.proofs.ListFacts.{by_test}
use Rattle.theory_text.proofs.Options.{some, some_is, none_some, came, given_is}
use Rattle.theory_text.proofs.Lines.PathsBack.{path_back}
use Rattle.theory_text.proofs.Lines.PrintedWords.{same_bytes}
use Rattle.theory_commands.specs.LineForms.{SpellsAct, SpellsRule, SpellsNoRule}
use Rattle.theory_commands.proofs.LinePaths.{path_spelled}
use Rattle.theory_commands.proofs.LineWords.{one_spelled, one_back, name_spelled, name_back}

alone_spelled : (act : Act) (words : List (List ℕ)) (a : Act) (P : List (List ℕ) → Act → Type 0) → alone act words ≡ some a → P [] act → P words a
alone_spelled act [] a P h p = subst (P []) (some_is act a h) p
alone_spelled act (w ∷ ws) a P h p = absurd (none_some a h)

authorise_spelled : (words : List (List ℕ)) (a : Act) → authorise_act words ≡ some a → SpellsAct (codes "authorise") words a
authorise_spelled [] a h = absurd (none_some a h)
authorise_spelled (w ∷ []) a h =
    let c = came (path w) (λ p. some (acts.Authorise p)) a h in
    let p = path_spelled w c.first c.is in
    subst (SpellsAct (codes "authorise") (w ∷ [])) (some_is (acts.Authorise c.first) a c.then')
    (refl, ap (λ (x : List ℕ). x ∷ []) p.word', p.small')
authorise_spelled (w ∷ v ∷ ws) a h = absurd (none_some a h)

reveal_spelled : (words : List (List ℕ)) (a : Act) → reveal_act words ≡ some a → SpellsAct (codes "reveal") words a
reveal_spelled [] a h = absurd (none_some a h)
reveal_spelled (w ∷ []) a h =
    let c = came (a_name w) (λ s. some (acts.Reveal s)) a h in
    let n = name_spelled w c.first c.is in
    subst (SpellsAct (codes "reveal") (w ∷ [])) (some_is (acts.Reveal c.first) a c.then') (refl, ap (λ (x : List ℕ). x ∷ []) n.word', n.name)
reveal_spelled (w ∷ v ∷ ws) a h = absurd (none_some a h)

fire_spelled : (words : List (List ℕ)) (a : Act) → fire_act words ≡ some a → SpellsAct (codes "fire") words a
fire_spelled [] a h = absurd (none_some a h)
fire_spelled (w ∷ []) a h =
    by_test (bytes_eq w (codes "init")) _ _ (some a) (SpellsAct (codes "fire") (w ∷ []) a) h
    (λ same h1. subst (SpellsAct (codes "fire") (w ∷ [])) (some_is acts.FireInit a h1)
    (refl, ap (λ (x : List ℕ). x ∷ []) (same_bytes w (codes "init") same)))
    (λ h1.
    let c = came (path w) (λ p. some (acts.Fire p)) a h1 in
    let p = path_spelled w c.first c.is in
    subst (SpellsAct (codes "fire") (w ∷ [])) (some_is (acts.Fire c.first) a c.then')
    (refl, ap (λ (x : List ℕ). x ∷ []) p.word', p.small'))
fire_spelled (w ∷ v ∷ ws) a h = absurd (none_some a h)

act_spelled : (verb : List ℕ) (words : List (List ℕ)) (a : Act) → act_by verb words ≡ some a → SpellsAct verb words a
act_spelled verb words a h =
    let P : Type 0 = SpellsAct verb words a in
    by_test (bytes_eq verb (codes "commit")) _ _ (some a) P h
    (λ v x. is (codes "commit") v (alone_spelled acts.Commit words a (SpellsAct (codes "commit")) x (refl, refl))) (λ h1.
    by_test (bytes_eq verb (codes "endorse")) _ _ (some a) P h1
    (λ v x. is (codes "endorse") v (alone_spelled acts.Endorse words a (SpellsAct (codes "endorse")) x (refl, refl))) (λ h2.
    by_test (bytes_eq verb (codes "init")) _ _ (some a) P h2
    (λ v x. is (codes "init") v (alone_spelled acts.Init words a (SpellsAct (codes "init")) x (refl, refl))) (λ h3.
    by_test (bytes_eq verb (codes "authorise")) _ _ (some a) P h3 (λ v x. is (codes "authorise") v (authorise_spelled words a x)) (λ h4.
    by_test (bytes_eq verb (codes "reveal")) _ _ (some a) P h4 (λ v x. is (codes "reveal") v (reveal_spelled words a x)) (λ h5.
    by_test (bytes_eq verb (codes "fire")) _ _ (some a) P h5 (λ v x. is (codes "fire") v (fire_spelled words a x))
    (λ h6. absurd (none_some a h6)))))))
  where
    is : (name : List ℕ) → bytes_eq verb name ≡ true → SpellsAct name words a → SpellsAct verb words a
    is name same s = subst (λ (v : List ℕ). SpellsAct v words a) (sym (same_bytes verb name same)) s

abbrev read : List ℕ → List (List ℕ) → Option Act
read verb words = act_by verb words

act_back : (verb : List ℕ) (words : List (List ℕ)) (a : Act) → SpellsAct verb words a → act_by verb words ≡ some a
act_back verb words acts.Commit (v, e) = λ i. read (v i) (e i)
act_back verb words acts.Endorse (v, e) = λ i. read (v i) (e i)
act_back verb words acts.Init (v, e) = λ i. read (v i) (e i)
act_back verb words (acts.Authorise p) (v, e, steps) = (λ i. read (v i) (e i)) ∙ rw (path_back p steps) refl
act_back verb words (acts.Reveal s) (v, e, name) = (λ i. read (v i) (e i)) ∙ rw (name_back s name) refl
act_back verb words acts.FireInit (v, e) = λ i. read (v i) (e i)
act_back verb words (acts.Fire p) (v, e, steps) = (λ i. read (v i) (e i)) ∙ rw (path_back p steps) refl

module _ (h : Header) where
  pub rule_spelled : (words : List (List ℕ)) (r : Rule) → rule_of h words ≡ some r → SpellsRule h words r
  rule_spelled [] r e = absurd (none_some r e)
  rule_spelled (party ∷ []) r e = absurd (none_some r e)
  rule_spelled (party ∷ verb ∷ []) r e = absurd (none_some r e)
  rule_spelled (party ∷ verb ∷ contract ∷ words) r e =
      let c = came (one_of h.honest party) (λ a. contract_word contract >>= λ k. act_by verb words >>= λ act. some (rule a act)) r e in
      let d = came (contract_word contract) (λ k. act_by verb words >>= λ act. some (rule c.first act)) r c.then' in
      let f = came (act_by verb words) (λ act. some (rule c.first act)) r d.then' in
      let p = one_spelled h.honest party c.first c.is in
      let g = given_is (bytes_eq contract (codes "0")) 0 d.first d.is in
      let zero = same_bytes contract (codes "0") g.holds in
      subst (SpellsRule h (party ∷ verb ∷ contract ∷ words)) (some_is (rule c.first f.first) r f.then')
      (verb, words, (λ i. p.word' i ∷ verb ∷ zero i ∷ words), p.there, act_spelled verb words f.first f.is)

  pub rule_back : (words : List (List ℕ)) (r : Rule) → SpellsRule h words r → rule_of h words ≡ some r
  rule_back words r (verb, more, e, there, spelled) =
      ap (rule_of h) e ∙ rw (one_back h.honest r.party there, act_back verb more r.act spelled) refl

  pub no_rule_spelled : (words : List (List ℕ)) → rule_of h words ≡ None → SpellsNoRule h words
  no_rule_spelled words e r s = none_some r (sym e ∙ rule_back words r s)

  pub no_rule_back : (words : List (List ℕ)) → SpellsNoRule h words → rule_of h words ≡ None
  no_rule_back words f = by_rule (rule_of h words) refl
    where
      by_rule : (o : Option Rule) → rule_of h words ≡ o → rule_of h words ≡ None
      by_rule None e = e
      by_rule (Some r) e = absurd (f r (rule_spelled words r e))
