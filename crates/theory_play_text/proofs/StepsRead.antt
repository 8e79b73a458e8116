-- The line of a step is read as that step.
use Rattle.std.proofs.Common.{◌≡◌, ℕ, true, List, [], ◌∷◌, ◌++◌, map, Option, Some, refl, sym, ap, subst, ◌∙◌, append_assoc}
use Rattle.std.specs.Prelude.{codes}
use Rattle.std.specs.Fmt.{decimal}
use Rattle.std.specs.List.{AllByRecursion}
use Rattle.spec_calculus.specs.declared.step.Owner.{Owner}
use Rattle.spec_calculus.specs.declared.step.Move.{Move}
use Rattle.spec_calculus.specs.declared.step.Step.{Step}
use Rattle.spec_calculus.specs.declared.step.Step.TheVariants as steps
use Rattle.spec_text.specs.Words.{◌>>=◌, a_name, named, all_of}
use Rattle.spec_text.specs.RunText.{output_text, outputs_text, contract_party_text}
use Rattle.spec_text.specs.StepText.{owner_text, length_text, lengths_text, branch_text, leads_text, step_words}
use Rattle.theory_text.proofs.Options.{some}
use Rattle.theory_play_text.specs.Lines.{Words, Stepped, number, an_output, an_owner, a_length, pairs_of, no_move, made_of}
use Rattle.theory_play_text.specs.Lines.{three_of, branch_of, step_of}
use Rattle.theory_play_text.specs.Printable.{IsWide, IsNamed, IsOwner, IsLength, IsShownStep, made_beside}
use Rattle.theory_play_text.proofs.LineWords.{ArePlain, known_word, is_plain_word, line_of, pair_words, all_line, then_line, pairs_line}
use Rattle.theory_play_text.proofs.LineWords.{plain_append, plain_map, plain_pairs}
use Rattle.theory_play_text.proofs.Reasons.{IsRead, outputs_none}
use Rattle.theory_play_text.proofs.WordsBack.{number_back, number_plain, output_back, output_plain, owner_back, owner_plain}
use Rattle.theory_play_text.proofs.WordsBack.{length_back, length_plain, name_back, name_plain, all_back, pairs_back, cut_back}
use Rattle.theory_play_text.proofs.WordsBack.{named_back, named_plain, output_no_sign, length_no_sign}

-- the step, and what it made
abbrev StepRead : Step → List ℕ → Type 0
StepRead s made = IsRead step_of (step_words made s) (s, made)

abbrev a_step : Step → List ℕ → Option Stepped
a_step s made = Some (s, made)

-- ---- what a step made

made_back : (made : List ℕ) → AllByRecursion IsWide made → made_of (codes "->" ∷ map output_text made) ≡ some made
made_back made h = all_back IsWide an_output output_text output_back made h

made_plain : (made : List ℕ) → AllByRecursion IsWide made → ArePlain (codes "->" ∷ map output_text made)
made_plain made h = (known_word (codes "->") refl, plain_map IsWide output_text output_plain made h)

-- ---- steps with lists

abbrev IsShare : Owner × ℕ → Type 0
IsShare o = IsOwner (o.0) × IsWide (o.1)

abbrev share_words : List (Owner × ℕ) → Words
share_words outputs = pair_words owner_text decimal outputs

abbrev a_move : List ℕ → List (Owner × ℕ) → Move
a_move inputs outputs = record { inputs = inputs; outputs = outputs }

move_back : (inputs : List ℕ) (outputs : List (Owner × ℕ)) → AllByRecursion IsWide inputs → AllByRecursion IsShare outputs
    → step_of (codes "move" ∷ (map output_text inputs ++ codes "->" ∷ share_words outputs)) ≡ a_step (steps.Move (a_move inputs outputs)) []
move_back inputs outputs h k =
    ap (λ o. o >>= λ p. all_of an_output (p.0) >>= λ is. pairs_of an_owner number (p.1) >>= λ os. a_step (steps.Move (a_move is os)) [])
    (cut_back (codes "->") (map output_text inputs) (share_words outputs) refl (outputs_none (codes "->") (λ n. refl) inputs))
    ∙ (ap (λ o. o >>= λ is. pairs_of an_owner number (share_words outputs) >>= λ os. a_step (steps.Move (a_move is os)) [])
    (all_back IsWide an_output output_text output_back inputs h)
    ∙ ap (λ o. o >>= λ os. a_step (steps.Move (a_move inputs os)) [])
    (pairs_back IsShare an_owner number owner_text decimal (λ o i. owner_back (o.0) i.0) (λ o i. number_back (o.1) i.1) outputs k))

move_read : (inputs : List ℕ) (outputs : List (Owner × ℕ)) → AllByRecursion IsWide inputs → AllByRecursion IsShare outputs
    → StepRead (steps.Move (a_move inputs outputs)) []
move_read inputs outputs h k = record {
  word = codes "move";
  words = map output_text inputs ++ codes "->" ∷ share_words outputs;
  are = ap (λ (r : List ℕ). codes "move" ++ (outputs_text inputs ++ (32 ∷ r))) (pairs_line owner_text decimal (codes "->") outputs)
      ∙ then_line output_text (codes "move") inputs (codes "->") (share_words outputs);
  plain = (
    known_word (codes "move") refl,
    plain_append (map output_text inputs) _ (plain_map IsWide output_text output_plain inputs h) (
      known_word (codes "->") refl,
      plain_pairs IsShare owner_text decimal (λ o i. (owner_plain (o.0) i.0, number_plain (o.1) i.1)) outputs k,
    ),
  );
  back = move_back inputs outputs h k;
}

abbrev IsBinding : List ℕ × ℕ → Type 0
IsBinding b = IsNamed (b.0) × IsWide (b.1)

abbrev binding_text : List ℕ × ℕ → List ℕ
binding_text b = b.0 ++ (codes "=" ++ output_text b.1)

advertise_read : (k : ℕ) (bs : List (List ℕ × ℕ)) → IsWide k → AllByRecursion IsBinding bs → StepRead (steps.Advertise k bs) []
advertise_read k bs h all = record {
  word = codes "advertise";
  words = decimal k ∷ map binding_text bs;
  are = ap (λ (r : List ℕ). codes "advertise " ++ r) (all_line binding_text (decimal k) bs);
  plain = (
    known_word (codes "advertise") refl,
    (
      number_plain k h,
      plain_map IsBinding binding_text (λ b i. named_plain an_output output_text b i.0 (output_plain (b.1) i.1)) bs all,
    ),
  );
  back = ap (λ o. o >>= λ n. all_of (named an_output) (map binding_text bs) >>= λ l. a_step (steps.Advertise n l) []) (number_back k h)
      ∙ ap (λ o. o >>= λ l. a_step (steps.Advertise k l) [])
      (all_back IsBinding (named an_output) binding_text
      (λ b i. named_back an_output output_text b i.0 (output_no_sign (b.1) i.1) (output_back (b.1) i.1)) bs all);
}

abbrev IsSized : List ℕ × Option ℕ → Type 0
IsSized l = IsNamed (l.0) × IsLength (l.1)

abbrev sized_text : List ℕ × Option ℕ → List ℕ
sized_text l = l.0 ++ (codes "=" ++ length_text l.1)

commit_read : (k : ℕ) (a : List ℕ) (ls : List (List ℕ × Option ℕ)) → IsWide k → IsNamed a → AllByRecursion IsSized ls
    → StepRead (steps.Commit k a ls) []
commit_read k a ls h name all = record {
  word = codes "commit";
  words = decimal k ∷ a ∷ map sized_text ls;
  are = ap (λ (r : List ℕ). codes "commit " ++ r)
      (append_assoc (decimal k) (32 ∷ a) (lengths_text ls)
      ∙ ap (λ (r : List ℕ). decimal k ++ (32 ∷ r)) (all_line sized_text a ls));
  plain = (
    known_word (codes "commit") refl,
    (
      number_plain k h,
      (
        name_plain a name,
        plain_map IsSized sized_text (λ l i. named_plain a_length length_text l i.0 (length_plain (l.1) i.1)) ls all,
      ),
    ),
  );
  back = ap (λ o. o >>= λ n. a_name a >>= λ p. all_of (named a_length) (map sized_text ls) >>= λ l. a_step (steps.Commit n p l) [])
      (number_back k h)
      ∙ (ap (λ o. o >>= λ p. all_of (named a_length) (map sized_text ls) >>= λ l. a_step (steps.Commit k p l) []) (name_back a name)
      ∙ ap (λ o. o >>= λ l. a_step (steps.Commit k a l) [])
      (all_back IsSized (named a_length) sized_text
      (λ l i. named_back a_length length_text l i.0 (length_no_sign (l.1) i.1) (length_back (l.1) i.1)) ls all));
}

-- ---- steps of fixed words

three_back : (make : ℕ → List ℕ → List ℕ → Step) (k : ℕ) (a x : List ℕ) → IsWide k → IsNamed a → IsNamed x
    → three_of make (decimal k ∷ a ∷ x ∷ []) ≡ a_step (make k a x) []
three_back make k a x h i j =
    ap (λ o. o >>= λ n. a_name a >>= λ p. a_name x >>= λ y. a_step (make n p y) []) (number_back k h)
    ∙ (ap (λ o. o >>= λ p. a_name x >>= λ y. a_step (make k p y) []) (name_back a i)
    ∙ ap (λ o. o >>= λ y. a_step (make k a y) []) (name_back x j))

-- a contract, a party and a name behind a word
three_are : (k : ℕ) (a x : List ℕ) → contract_party_text k a ++ (codes " " ++ x) ≡ line_of (decimal k ∷ a ∷ x ∷ [])
three_are k a x = append_assoc (decimal k) (32 ∷ a) (32 ∷ x)

three_plain : (k : ℕ) (a x : List ℕ) → IsWide k → IsNamed a → IsNamed x → ArePlain (decimal k ∷ a ∷ x ∷ [])
three_plain k a x h i j = (number_plain k h, (name_plain a i, (name_plain x j, tt)))

branch_back : (make : ℕ → ℕ → Step) (n i : ℕ) (made : List ℕ) → IsWide n → IsWide i → AllByRecursion IsWide made
    → branch_of make (output_text n ∷ decimal i ∷ codes "->" ∷ map output_text made) ≡ a_step (make n i) made
branch_back make n i made h k all =
    let words = codes "->" ∷ map output_text made in
    ap (λ o. o >>= λ m. number (decimal i) >>= λ j. made_of words >>= λ ms. a_step (make m j) ms) (output_back n h)
    ∙ (ap (λ o. o >>= λ j. made_of words >>= λ ms. a_step (make n j) ms) (number_back i k)
    ∙ ap (λ o. o >>= λ ms. a_step (make n i) ms) (made_back made all))

leads_are : (word : List ℕ) (made : List ℕ) → word ++ leads_text made ≡ line_of (word ∷ codes "->" ∷ map output_text made)
leads_are word made = ap (λ (r : List ℕ). word ++ (32 ∷ r)) (all_line output_text (codes "->") made)

branch_are : (n i : ℕ) (made : List ℕ)
    → branch_text n i ++ leads_text made ≡ line_of (output_text n ∷ decimal i ∷ codes "->" ∷ map output_text made)
branch_are n i made =
    append_assoc (output_text n) (32 ∷ decimal i) (leads_text made)
    ∙ ap (λ (r : List ℕ). output_text n ++ (32 ∷ r)) (leads_are (decimal i) made)

branch_plain : (n i : ℕ) (made : List ℕ) → IsWide n → IsWide i → AllByRecursion IsWide made
    → ArePlain (output_text n ∷ decimal i ∷ codes "->" ∷ map output_text made)
branch_plain n i made h k all = (output_plain n h, (number_plain i k, made_plain made all))

-- ---- all steps

delay_read : (n : ℕ) → IsWide n → StepRead (steps.Delay n) []
delay_read n h = record {
  word = codes "delay";
  words = decimal n ∷ [];
  are = refl;
  plain = (known_word (codes "delay") refl, (number_plain n h, tt));
  back = ap (λ o. o >>= λ m. a_step (steps.Delay m) []) (number_back n h);
}

auth_move_read : (a : List ℕ) (action : Move) → IsNamed a → action ≡ no_move → StepRead (steps.AuthMove a action) []
auth_move_read a action h same = record {
  word = codes "authmove";
  words = a ∷ [];
  are = refl;
  plain = (known_word (codes "authmove") refl, (name_plain a h, tt));
  back = ap (λ o. o >>= λ p. a_step (steps.AuthMove p no_move) []) (name_back a h)
      ∙ ap (λ (m : Move). a_step (steps.AuthMove a m) []) (sym same);
}

auth_branch_read : (a : List ℕ) (n i : ℕ) → IsNamed a → IsWide n → IsWide i → StepRead (steps.AuthBranch a n i) []
auth_branch_read a n i h k l = record {
  word = codes "authbranch";
  words = a ∷ output_text n ∷ decimal i ∷ [];
  are = refl;
  plain = (known_word (codes "authbranch") refl, (name_plain a h, (output_plain n k, (number_plain i l, tt))));
  back =
      ap (λ o. o >>= λ p. an_output (output_text n) >>= λ m. number (decimal i) >>= λ j. a_step (steps.AuthBranch p m j) []) (name_back a h)
      ∙ (ap (λ o. o >>= λ m. number (decimal i) >>= λ j. a_step (steps.AuthBranch a m j) []) (output_back n k)
      ∙ ap (λ o. o >>= λ j. a_step (steps.AuthBranch a n j) []) (number_back i l));
}

init_read : (k : ℕ) (made : List ℕ) → IsWide k → AllByRecursion IsWide made → StepRead (steps.Init k) made
init_read k made h all = record {
  word = codes "init";
  words = decimal k ∷ codes "->" ∷ map output_text made;
  are = ap (λ (r : List ℕ). codes "init " ++ r) (leads_are (decimal k) made);
  plain = (known_word (codes "init") refl, (number_plain k h, made_plain made all));
  back = ap (λ o. o >>= λ n. made_of (codes "->" ∷ map output_text made) >>= λ ms. a_step (steps.Init n) ms) (number_back k h)
      ∙ ap (λ o. o >>= λ ms. a_step (steps.Init k) ms) (made_back made all);
}

-- by its word
three_read : (make : ℕ → List ℕ → List ℕ → Step) (word : List ℕ) (k : ℕ) (a x : List ℕ)
    → step_words [] (make k a x) ≡ word ++ (32 ∷ (contract_party_text k a ++ (codes " " ++ x))) → is_plain_word word ≡ true
    → step_of (word ∷ decimal k ∷ a ∷ x ∷ []) ≡ three_of make (decimal k ∷ a ∷ x ∷ [])
    → IsWide k → IsNamed a → IsNamed x → StepRead (make k a x) []
three_read make word k a x is plain by h i j = record {
  word = word;
  words = decimal k ∷ a ∷ x ∷ [];
  are = is ∙ ap (λ (r : List ℕ). word ++ (32 ∷ r)) (three_are k a x);
  plain = (known_word word plain, three_plain k a x h i j);
  back = by ∙ three_back make k a x h i j;
}

branch_read : (make : ℕ → ℕ → Step) (word : List ℕ) (n i : ℕ) (made : List ℕ)
    → step_words made (make n i) ≡ word ++ (32 ∷ (branch_text n i ++ leads_text made)) → is_plain_word word ≡ true
    → step_of (word ∷ output_text n ∷ decimal i ∷ codes "->" ∷ map output_text made)
    ≡ branch_of make (output_text n ∷ decimal i ∷ codes "->" ∷ map output_text made)
    → IsWide n → IsWide i → AllByRecursion IsWide made → StepRead (make n i) made
branch_read make word n i made is plain by h k all = record {
  word = word;
  words = output_text n ∷ decimal i ∷ codes "->" ∷ map output_text made;
  are = is ∙ ap (λ (r : List ℕ). word ++ (32 ∷ r)) (branch_are n i made);
  plain = (known_word word plain, branch_plain n i made h k all);
  back = by ∙ branch_back make n i made h k all;
}

abbrev Reads : Step → List ℕ → Type 0
Reads s made = AllByRecursion IsWide made → StepRead s made

no_more : (s : Step) (made : List ℕ) → [] ≡ made → StepRead s [] → StepRead s made
no_more s made same h = subst (StepRead s) same h

pub step_read : (s : Step) (made : List ℕ) → IsShownStep s → made_beside made s ≡ made → AllByRecursion IsWide made → StepRead s made
step_read (steps.Delay n) made h same all = no_more _ made same (delay_read n h)
step_read (steps.AuthMove a action) made h same all = no_more _ made same (auth_move_read a action h.0 h.1)
step_read (steps.Move action) made h same all = no_more _ made same (move_read action.inputs action.outputs h.0 h.1)
step_read (steps.Advertise k bs) made h same all = no_more _ made same (advertise_read k bs h.0 h.1)
step_read (steps.Commit k a ls) made h same all = no_more _ made same (commit_read k a ls h.0 h.1 h.2)
step_read (steps.AuthInit k a x) made h same all =
    no_more _ made same (three_read (λ n p y. steps.AuthInit n p y) (codes "authinit") k a x refl refl refl h.0 h.1 h.2)
step_read (steps.Init k) made h same all = init_read k made h all
step_read (steps.Reveal k a x) made h same all =
    no_more _ made same (three_read (λ n p y. steps.Reveal n p y) (codes "reveal") k a x refl refl refl h.0 h.1 h.2)
step_read (steps.AuthBranch a n i) made h same all = no_more _ made same (auth_branch_read a n i h.0 h.1 h.2)
step_read (steps.PutReveal n i) made h same all =
    branch_read (λ m j. steps.PutReveal m j) (codes "putreveal") n i made refl refl refl h.0 h.1 all
step_read (steps.Withdraw n i) made h same all =
    branch_read (λ m j. steps.Withdraw m j) (codes "withdraw") n i made refl refl refl h.0 h.1 all
step_read (steps.Split n i) made h same all =
    branch_read (λ m j. steps.Split m j) (codes "split") n i made refl refl refl h.0 h.1 all
