-- The rules of a strategy file are honest parties', and the secrets that they reveal have names.
use Rattle.std.proofs.Common.{◌≡◌, ℕ, ◌+◌, List, [], ◌∷◌, Bool, true, false, Option, Some, None, Result, Ok, Err, refl, subst}
use Rattle.std.specs.Prelude.{nat_lt, if◌then◌else◌, codes}
use Rattle.std.specs.List.{AllByRecursion}
use Rattle.std.specs.Str.{bytes_eq}
use Rattle.spec_data.specs.Lists.{is_among}
use Rattle.spec_terms.specs.Readable.{is_name}
use Rattle.spec_terms.specs.declared.path.PathStep.{PathStep}
use Rattle.spec_run.specs.declared.header.Header.{Header}
use Rattle.spec_text.specs.Lines.{lines_of, words_of}
use Rattle.spec_text.specs.Words.{◌>>=◌, one_of, a_name, path}
use Rattle.spec_tool.specs.declared.rule.Act.{Act}
use Rattle.spec_tool.specs.declared.rule.Act.TheVariants as acts
use Rattle.spec_tool.specs.declared.rule.Rule.{Rule}
use Rattle.spec_tool.specs.declared.rule.StrategyFault.{StrategyFault}
use Rattle.spec_tool.specs.Sizes.{most_rules}
use Rattle.spec_tool.specs.Strategy.{contract_word, alone, authorise_act, reveal_act, fire_act, act_by}
use Rattle.spec_tool.specs.Strategy.{rule, rule_of, Said, bad, over, empty}
use Rattle.spec_tool.specs.Strategy.{says, said_within, said_words}
use Rattle.spec_tool.specs.Strategy.{said_line, counted, with_rule, rule_step, rules_from, read_strategy}
use Rattle.theory_text.proofs.ListFacts.{by_test}
use Rattle.theory_text.proofs.Options.{some, some_is, none_some, came, given_is}
use Rattle.theory_auto.specs.OwnRules.{IsHonest, StrategiesAreHonest}

-- ---- a line

rule_honest : (h : Header) (words : List (List ℕ)) (r : Rule) → rule_of h words ≡ some r → IsHonest h r
rule_honest h [] r e = absurd (none_some r e)
rule_honest h (party ∷ []) r e = absurd (none_some r e)
rule_honest h (party ∷ verb ∷ []) r e = absurd (none_some r e)
rule_honest h (party ∷ verb ∷ contract ∷ words) r e =
    let a = came (one_of h.honest party) (λ x. contract_word contract >>= λ k. act_by verb words >>= λ act. some (rule x act)) r e in
    let b = came (contract_word contract) (λ k. act_by verb words >>= λ act. some (rule a.first act)) r a.then' in
    let c = came (act_by verb words) (λ act. some (rule a.first act)) r b.then' in
    let g = given_is (is_among party h.honest) party a.first a.is in
    let who : IsHonest h (rule a.first c.first) = subst (λ x. is_among x h.honest ≡ true) g.same g.holds in
    subst (IsHonest h) (some_is (rule a.first c.first) r c.then') who

-- ---- what holds of each rule that words spell

module _ (h : Header) (P : Rule → Type 0) (f : (words : List (List ℕ)) (r : Rule) → rule_of h words ≡ some r → P r) where
  abbrev Says : Said → Type 0
  Says bad = Unit {0}
  Says over = Unit {0}
  Says empty = Unit {0}
  Says (says r) = P r

  room_says : (r : Rule) → P r → (b : Bool) → Says (if b then says r else over)
  room_says r e true = e
  room_says r e false = tt

  within_says : (count : ℕ) (o : Option Rule) → ((r : Rule) → o ≡ some r → P r) → Says (said_within count o)
  within_says count None g = tt
  within_says count (Some r) g = room_says r (g r refl) (nat_lt count most_rules)

  words_say : (count : ℕ) (words : List (List ℕ)) → Says (said_words h count words)
  words_say count [] = tt
  words_say count (word ∷ words) = within_says count (rule_of h (word ∷ words)) (λ r e. f (word ∷ words) r e)

  line_says : (count : ℕ) (line : List ℕ) → Says (said_line h count line)
  line_says count line = words_say count (words_of line)

  abbrev AllIf : Result (List Rule) StrategyFault → Type 0
  AllIf (Ok rules) = AllByRecursion P rules
  AllIf (Err fault) = Unit {0}

  with_one : (r : Rule) (later : Result (List Rule) StrategyFault) → P r → AllIf later → AllIf (with_rule r later)
  with_one r (Ok rules) e g = (e, g)
  with_one r (Err fault) e g = tt

  step_all : (n : ℕ) (said : Said) (later : Result (List Rule) StrategyFault) → Says said → AllIf later → AllIf (rule_step n said later)
  step_all n bad later e g = tt
  step_all n over later e g = tt
  step_all n empty later e g = g
  step_all n (says r) later e g = with_one r later e g

  lines_all : (lines : List (List ℕ)) (count n : ℕ) → AllIf (rules_from h count n lines)
  lines_all [] count n = tt
  lines_all (line ∷ lines) count n =
      step_all n (said_line h count line) (rules_from h (counted count (said_line h count line)) (n + 1) lines) (line_says count line)
      (lines_all lines (counted count (said_line h count line)) (n + 1))

  -- it holds of all rules of a strategy file
  pub read_rules : (text : List ℕ) (rules : List Rule) → read_strategy h text ≡ Ok rules → AllByRecursion P rules
  read_rules text rules e = subst AllIf e (lines_all (lines_of text) 0 1)

pub strategies_honest : StrategiesAreHonest
strategies_honest h text rules e = read_rules h (IsHonest h) (rule_honest h) text rules e

-- ---- secrets

-- a secret that is to be revealed has a name of contract text
abbrev pub IsNamed : Act → Type 0
IsNamed (acts.Reveal secret) = is_name secret ≡ true
IsNamed acts.Commit = Unit {0}
IsNamed acts.Endorse = Unit {0}
IsNamed acts.Init = Unit {0}
IsNamed (acts.Authorise path) = Unit {0}
IsNamed acts.FireInit = Unit {0}
IsNamed (acts.Fire path) = Unit {0}

abbrev some_act : Act → Option Act
some_act act = Some act

reveal_named : (words : List (List ℕ)) (act : Act) → reveal_act words ≡ some_act act → IsNamed act
reveal_named [] act e = absurd (none_some act e)
reveal_named (word ∷ []) act e =
    let a = came (a_name word) (λ secret. some (acts.Reveal secret)) act e in
    let g = given_is (is_name word) word a.first a.is in
    subst IsNamed (some_is (acts.Reveal a.first) act a.then') (subst (λ x. is_name x ≡ true) g.same g.holds)
reveal_named (word ∷ next ∷ words) act e = absurd (none_some act e)

alone_named : (made : Act) → IsNamed made → (words : List (List ℕ)) (act : Act) → alone made words ≡ some_act act → IsNamed act
alone_named made is [] act e = subst IsNamed (some_is made act e) is
alone_named made is (word ∷ words) act e = absurd (none_some act e)

path_named : (make : List PathStep → Act) → ((p : List PathStep) → IsNamed (make p)) → (word : List ℕ) (act : Act)
    → (path word >>= λ p. some (make p)) ≡ some_act act → IsNamed act
path_named make is word act e =
    let a = came (path word) (λ p. some (make p)) act e in
    subst IsNamed (some_is (make a.first) act a.then') (is a.first)

authorise_named : (words : List (List ℕ)) (act : Act) → authorise_act words ≡ some_act act → IsNamed act
authorise_named [] act e = absurd (none_some act e)
authorise_named (word ∷ []) act e = path_named acts.Authorise (λ p. tt) word act e
authorise_named (word ∷ next ∷ words) act e = absurd (none_some act e)

fire_named : (words : List (List ℕ)) (act : Act) → fire_act words ≡ some_act act → IsNamed act
fire_named [] act e = absurd (none_some act e)
fire_named (word ∷ []) act e =
    by_test (bytes_eq word (codes "init")) _ _ (some_act act) (IsNamed act) e
    (λ same f. subst IsNamed (some_is acts.FireInit act f) tt) (λ f. path_named acts.Fire (λ p. tt) word act f)
fire_named (word ∷ next ∷ words) act e = absurd (none_some act e)

act_named : (verb : List ℕ) (words : List (List ℕ)) (act : Act) → act_by verb words ≡ some_act act → IsNamed act
act_named verb words act e =
    let P = IsNamed act in
    by_test (bytes_eq verb (codes "commit")) _ _ (some_act act) P e (λ w x. alone_named acts.Commit tt words act x) (λ e1.
    by_test (bytes_eq verb (codes "endorse")) _ _ (some_act act) P e1 (λ w x. alone_named acts.Endorse tt words act x) (λ e2.
    by_test (bytes_eq verb (codes "init")) _ _ (some_act act) P e2 (λ w x. alone_named acts.Init tt words act x) (λ e3.
    by_test (bytes_eq verb (codes "authorise")) _ _ (some_act act) P e3 (λ w x. authorise_named words act x) (λ e4.
    by_test (bytes_eq verb (codes "reveal")) _ _ (some_act act) P e4 (λ w x. reveal_named words act x) (λ e5.
    by_test (bytes_eq verb (codes "fire")) _ _ (some_act act) P e5 (λ w x. fire_named words act x) (λ e6. absurd (none_some act e6)))))))

-- so is each that a rule of a strategy file reveals
abbrev pub HasNames : Rule → Type 0
HasNames r = IsNamed r.act

rule_named : (h : Header) (words : List (List ℕ)) (r : Rule) → rule_of h words ≡ some r → HasNames r
rule_named h [] r e = absurd (none_some r e)
rule_named h (party ∷ []) r e = absurd (none_some r e)
rule_named h (party ∷ verb ∷ []) r e = absurd (none_some r e)
rule_named h (party ∷ verb ∷ contract ∷ words) r e =
    let a = came (one_of h.honest party) (λ x. contract_word contract >>= λ k. act_by verb words >>= λ act. some (rule x act)) r e in
    let b = came (contract_word contract) (λ k. act_by verb words >>= λ act. some (rule a.first act)) r a.then' in
    let c = came (act_by verb words) (λ act. some (rule a.first act)) r b.then' in
    subst HasNames (some_is (rule a.first c.first) r c.then') (act_named verb words c.first c.is)

pub strategies_named : (h : Header) (text : List ℕ) (rules : List Rule) → read_strategy h text ≡ Ok rules → AllByRecursion HasNames rules
strategies_named h text rules e = read_rules h HasNames (rule_named h) text rules e
