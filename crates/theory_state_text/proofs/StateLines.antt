-- The text of `state` is of whole lines, and those of secrets alone aren't read over.
use Rattle.std.proofs.Common.{◌≡◌, ℕ, List, [], ◌∷◌, ◌++◌, reverse, Option, Some, None, refl, ap, ◌∙◌, inl, inr, append-nil}
use Rattle.std.specs.Prelude.{flat_map, codes}
use Rattle.std.specs.Fmt.{decimal}
use Rattle.std.specs.List.{list_any, AllByRecursion}
use Rattle.spec_data.specs.Digits.{hex_text}
use Rattle.spec_terms.specs.Faults.{IsWellFormed}
use Rattle.spec_bitcoin.specs.Keys.{label_text, path_text}
use Rattle.spec_calculus.specs.declared.step.Step.{Step}
use Rattle.spec_calculus.specs.declared.step.Step.TheVariants as steps
use Rattle.spec_compiler.specs.Keyed.Keys.{Keys}
use Rattle.spec_compiler.specs.Keyed.Instance.{Instance, people}
use Rattle.spec_text.specs.RunText.{output_text, contract_party_text}
use Rattle.spec_text.specs.StepText.{branch_text, leads_text, step_words, step_line}
use Rattle.spec_tool.specs.declared.which.Which.{Which}
use Rattle.spec_tool.specs.Keyed.Listed.{which_text}
use Rattle.spec_deal.specs.declared.entry.Shown.{Shown}
use Rattle.spec_deal.specs.declared.finish.Verb.{Verb}
use Rattle.spec_deal.specs.declared.finish.Verb.TheVariants as verbs
use Rattle.spec_deal.specs.declared.signed.Signed.{Signed}
use Rattle.spec_deal.specs.declared.transaction.Wallet.{Wallet}
use Rattle.spec_deal.specs.DealText.{verb_text, slot_words}
use Rattle.spec_deal.specs.Needed.{needed_secrets}
use Rattle.spec_deal.specs.SecretFile.{string_for}
use Rattle.spec_deal.specs.Slots.{Slot}
use Rattle.spec_deal.specs.Wallets.{wallet_text, signer_text}
use Rattle.spec_chain.specs.declared.happened.Happened.{Happened}
use Rattle.spec_chain.specs.declared.output.Held.{Held}
use Rattle.spec_chain.specs.declared.output.Held.TheVariants.{Deposit, Position, Payout}
use Rattle.spec_chain.specs.declared.output.Output.{Output}
use Rattle.spec_chain.specs.declared.requirement.Requirement.{Requirement}
use Rattle.spec_chain.specs.declared.requirement.Requirement.TheVariants as requirements
use Rattle.spec_chain.specs.Chain.{Course}
use Rattle.spec_chain.specs.Following.{State}
use Rattle.spec_chain.specs.Outstanding.{asked, known, outstanding, unverified_for, waits_for, awaited}
use Rattle.spec_chain.specs.StateText.{txid_text, happened_name, gone_line, happened_text, output_words, live_line, paid_line, string_line, secrets_text}
use Rattle.spec_chain.specs.StateText.{height_line, requirement_line, unverified_line, prospect_text, waits_line, all_outstanding, prospects_text}
use Rattle.spec_chain.specs.StateText.{past_text, state_text}
use Rattle.theory_text.proofs.Lines.LineBytes.{ends_line, line_ends}
use Rattle.theory_text.proofs.Lines.Separated.{Lacks}
use Rattle.theory_play_text.specs.Printable.{IsNamed}
use Rattle.theory_state_text.proofs.Ends.{Ends, both, word_ends, decimal_ends, output_ends, outputs_ends, name_ends, hex_ends, path_ends, which_ends, label_ends}
use Rattle.theory_state_text.proofs.Lined.{Lined, none, together, all_quiet, quiet, quiet_words, loud_words}
use Rattle.theory_state_text.proofs.Named.{Each, each_filter, OutputNamed, HeldNamed, StepNamed, HappenedNamed, CourseNamed, people_named}
use Rattle.theory_state_text.proofs.ReadBack.{secret_words, secret_lines_of, secret_lines, IsKnown, words_fine, words_back}
use Rattle.theory_state_text.proofs.Requirements.{WalletNamed, SlotFine, unverified_fine, RequirementFine, outstanding_fine}
use Rattle.theory_state_text.specs.Secrets.{says_something}

-- ---- what has been

branch_ends : (n i : ℕ) → Ends (branch_text n i)
branch_ends n i = both (output_text n) (32 ∷ decimal i) (output_ends n) (refl, decimal_ends i)

leads_end : (made : List ℕ) → Ends (leads_text made)
leads_end made = (refl, (refl, (refl, outputs_ends made)))

makes_ends : (n i : ℕ) (made : List ℕ) → Ends (branch_text n i ++ leads_text made)
makes_ends n i made = both (branch_text n i) (leads_text made) (branch_ends n i) (leads_end made)

party_ends : (k : ℕ) (a x : List ℕ) → IsNamed a → IsNamed x → Ends (contract_party_text k a ++ (codes " " ++ x))
party_ends k a x h i =
    both (contract_party_text k a) (32 ∷ x) (both (decimal k) (32 ∷ a) (decimal_ends k) (refl, name_ends a h)) (refl, name_ends x i)

step_ends : (made : List ℕ) (s : Step) → StepNamed s → Ends (step_words made s)
step_ends made (steps.AuthInit k a x) h =
    both (codes "authinit ") (contract_party_text k a ++ (codes " " ++ x)) (word_ends (codes "authinit ") refl) (party_ends k a x h.0 h.1)
step_ends made (steps.Init k) h =
    both (codes "init ") (decimal k ++ leads_text made) (word_ends (codes "init ") refl)
    (both (decimal k) (leads_text made) (decimal_ends k) (leads_end made))
step_ends made (steps.Reveal k a x) h =
    both (codes "reveal ") (contract_party_text k a ++ (codes " " ++ x)) (word_ends (codes "reveal ") refl) (party_ends k a x h.0 h.1)
step_ends made (steps.AuthBranch a n i) h =
    both (codes "authbranch ") (a ++ (codes " " ++ branch_text n i)) (word_ends (codes "authbranch ") refl)
    (both a (32 ∷ branch_text n i) (name_ends a h) (refl, branch_ends n i))
step_ends made (steps.PutReveal n i) h =
    both (codes "putreveal ") (branch_text n i ++ leads_text made) (word_ends (codes "putreveal ") refl) (makes_ends n i made)
step_ends made (steps.Withdraw n i) h =
    both (codes "withdraw ") (branch_text n i ++ leads_text made) (word_ends (codes "withdraw ") refl) (makes_ends n i made)
step_ends made (steps.Split n i) h =
    both (codes "split ") (branch_text n i ++ leads_text made) (word_ends (codes "split ") refl) (makes_ends n i made)
step_ends made (steps.Delay n) h = absurd h
step_ends made (steps.AuthMove a action) h = absurd h
step_ends made (steps.Move action) h = absurd h
step_ends made (steps.Advertise k bs) h = absurd h
step_ends made (steps.Commit k a ls) h = absurd h

step_quiet : (made : List ℕ) (s : Step) → StepNamed s → Lined (step_line made s) []
step_quiet made s h =
    quiet (codes "step " ++ step_words made s) (both (codes "step ") (step_words made s) (word_ends (codes "step ") refl) (step_ends made s h)) refl

name_of_ends : (h : Happened) → Ends (happened_name h)
name_of_ends h = by_which h.which
  where
    by_which : (o : Option Which) → Ends (elim o [ None ↦ txid_text h.txid | Some which ↦ which_text which ])
    by_which None = hex_ends (reverse h.txid)
    by_which (Some which) = which_ends which

gone_quiet : (x : List ℕ) → IsNamed x → Lined (gone_line x) []
gone_quiet x h = quiet_words (codes "gone") (x ∷ []) (word_ends (codes "gone") refl, (name_ends x h, tt)) refl

happened_quiet : (h : Happened) → HappenedNamed h → Lined (happened_text h) []
happened_quiet h k =
    together _ (flat_map (step_line h.made) h.steps ++ flat_map gone_line h.gone) [] []
    (quiet_words (codes "confirmed") (happened_name h ∷ decimal h.height ∷ [])
    (word_ends (codes "confirmed") refl, (name_of_ends h, (decimal_ends h.height, tt))) refl)
    (together (flat_map (step_line h.made) h.steps) (flat_map gone_line h.gone) [] []
    (all_quiet (step_line h.made) h.steps (λ s i. step_quiet h.made s (k.steps s i)))
    (all_quiet gone_line h.gone (λ x i. gone_quiet x (k.gone x i))))

-- the words of an output end no line
abbrev WordsEnd : List (List ℕ) → Type 0
WordsEnd words = AllByRecursion (Lacks ends_line) words

-- those behind the first
abbrev other_words : List ℕ → Output → List (List ℕ)
other_words name o = output_text o.number ∷ name ∷ txid_text o.place.txid ∷ decimal o.place.vout ∷ decimal o.value ∷ []

output_words_end : (word name : List ℕ) (o : Output) → Ends word → Ends name → WordsEnd (output_words word name o)
output_words_end word name o h k =
    (h, (output_ends o.number, (k, (hex_ends (reverse o.place.txid), (decimal_ends o.place.vout, (decimal_ends o.value, tt))))))

live_quiet : (o : Output) → Lined (live_line o) []
live_quiet o = by_held o.held
  where
    by_held : (h : Held) → Lined (live_line (record o { held = h })) []
    by_held (Deposit name) = none
    by_held (Position path) =
        quiet_words (codes "live") (other_words (path_text path) o) (output_words_end (codes "live") (path_text path) o (word_ends (codes "live") refl) (path_ends path)) refl
    by_held (Payout party) = none

paid_quiet : (o : Output) → OutputNamed o → Lined (paid_line o) []
paid_quiet o h = by_held o.held h
  where
    by_held : (h : Held) → HeldNamed h → Lined (paid_line (record o { held = h })) []
    by_held (Deposit name) k = none
    by_held (Position path) k = none
    by_held (Payout party) k =
        quiet_words (codes "paid") (other_words party o) (output_words_end (codes "paid") party o (word_ends (codes "paid") refl) (name_ends party k)) refl

-- ---- secrets

module _ (hash : List ℕ → List ℕ) (s : Instance) (strings : List Shown)
    (are : (name bytes : List ℕ) → string_for strings name ≡ Some bytes → IsKnown hash s name bytes) where
  string_loud : (name : List ℕ) → IsNamed name → Lined (string_line name (string_for strings name)) (secret_lines_of name (string_for strings name))
  string_loud name named = by_string (string_for strings name) refl
    where
      by_string : (o : Option (List ℕ)) → string_for strings name ≡ o → Lined (string_line name o) (secret_lines_of name o)
      by_string None e = none
      by_string (Some bytes) e =
          let k = are name bytes e in
          loud_words (codes "secret") (name ∷ hex_text bytes ∷ [])
          (line_ends (secret_words name bytes) (words_fine name bytes named k.bytes_are k.long))
          (ap says_something (words_back name bytes named k.bytes_are k.long))

  secrets_loud : (ns : List (List ℕ)) → Each IsNamed ns
      → Lined (flat_map (λ name. string_line name (string_for strings name)) ns) (secret_lines strings ns)
  secrets_loud [] h = none
  secrets_loud (x ∷ xs) h =
      together (string_line x (string_for strings x)) _ (secret_lines_of x (string_for strings x)) (secret_lines strings xs)
      (string_loud x (h x (inl refl))) (secrets_loud xs (λ y i. h y (inr i)))

-- ---- what may come

verb_ends : (verb : Verb) → Ends (verb_text verb)
verb_ends verbs.Init = word_ends (codes "init") refl
verb_ends verbs.Authorise = word_ends (codes "authorise") refl
verb_ends verbs.Endorse = word_ends (codes "endorse") refl

wallet_ends : (name : List ℕ) → IsNamed name → Ends (wallet_text name)
wallet_ends name h = (refl, (refl, name_ends name h))

signer_ends : (slot : Slot) → SlotFine slot → Ends (signer_text slot.wallet slot.label)
signer_ends slot h = by_wallet slot.wallet h.wallet
  where
    by_wallet : (o : Option Wallet) → WalletNamed o → Ends (signer_text o slot.label)
    by_wallet None f = label_ends slot.label h.label
    by_wallet (Some w) f = wallet_ends w.deposit f

unverified_quiet : (slot : Slot) → SlotFine slot → Lined (unverified_line slot) []
unverified_quiet slot h =
    quiet_words (codes "unverified") (slot_words slot)
    (word_ends (codes "unverified") refl, (which_ends slot.which, (decimal_ends slot.input, (signer_ends slot h, (verb_ends slot.verb, tt))))) refl

requirement_quiet : (w : Requirement) → RequirementFine w → Lined (requirement_line w) []
requirement_quiet (requirements.Height height) h =
    quiet_words (codes "needs height") (decimal height ∷ []) (word_ends (codes "needs height") refl, (decimal_ends height, tt)) refl
requirement_quiet (requirements.Signature which input label verb) h =
    quiet_words (codes "needs signature") (which_text which ∷ decimal input ∷ label_text label ∷ verb_text verb ∷ [])
    (word_ends (codes "needs signature") refl, (which_ends which, (decimal_ends input, (label_ends label h, (verb_ends verb, tt))))) refl
requirement_quiet (requirements.Wallet which input deposit owner verb) h =
    quiet_words (codes "needs signature") (which_text which ∷ decimal input ∷ wallet_text deposit ∷ verb_text verb ∷ [])
    (word_ends (codes "needs signature") refl, (which_ends which, (decimal_ends input, (wallet_ends deposit h, (verb_ends verb, tt))))) refl
requirement_quiet (requirements.Deposit name) h =
    quiet_words (codes "needs deposit") (name ∷ []) (word_ends (codes "needs deposit") refl, (name_ends name h, tt)) refl
requirement_quiet (requirements.Secret name party) h =
    quiet_words (codes "needs secret") (name ∷ codes "of" ∷ party ∷ [])
    (word_ends (codes "needs secret") refl, (name_ends name h.0, (word_ends (codes "of") refl, (h.1, tt)))) refl
requirement_quiet requirements.DepositGone h = quiet_words (codes "never: deposit gone") [] (word_ends (codes "never: deposit gone") refl, tt) refl
requirement_quiet requirements.PredicateFalse h =
    quiet_words (codes "never: predicate false") [] (word_ends (codes "never: predicate false") refl, tt) refl

prospect_quiet : (which : Which) (unverified : List Slot) (ws : List Requirement) → Each SlotFine unverified → Each RequirementFine ws
    → Lined (prospect_text which unverified ws) []
prospect_quiet which unverified [] h k =
    together _ (flat_map unverified_line unverified) [] []
    (quiet_words (codes "can") (which_text which ∷ []) (word_ends (codes "can") refl, (which_ends which, tt)) refl)
    (all_quiet unverified_line unverified (λ slot i. unverified_quiet slot (h slot i)))
prospect_quiet which unverified (w ∷ ws) h k =
    together _ (flat_map requirement_line (w ∷ ws)) [] []
    (quiet_words (codes "cannot") (which_text which ∷ []) (word_ends (codes "cannot") refl, (which_ends which, tt)) refl)
    (all_quiet requirement_line (w ∷ ws) (λ x i. requirement_quiet x (k x i)))

waits_quiet : (party : List ℕ) → IsNamed party → Lined (waits_line party) []
waits_quiet party h = quiet_words (codes "waits") (party ∷ []) (word_ends (codes "waits") refl, (name_ends party h, tt)) refl

height_quiet : (tip : ℕ) → Lined (height_line tip) []
height_quiet tip = quiet_words (codes "height") (decimal tip ∷ []) (word_ends (codes "height") refl, (decimal_ends tip, tt)) refl

-- ---- all of it

module _ (hash : List ℕ → List ℕ) (keys : Keys) (s : Instance) (well : IsWellFormed s.advert) where
  prospects_quiet : (given : List Signed) (strings : List Shown) (state : State) (tip : ℕ)
      → Lined (prospects_text hash keys s given strings state tip) []
  prospects_quiet given strings state tip =
      let all = all_outstanding hash keys s given strings state tip in
      together _ (flat_map waits_line (awaited s all)) [] []
      (all_quiet
      (λ which. prospect_text which (unverified_for hash keys s given which) (outstanding hash keys s given strings state tip which))
      (asked s state)
      (λ which i.
      prospect_quiet which (unverified_for hash keys s given which) (outstanding hash keys s given strings state tip which)
      (unverified_fine hash keys s well given which) (outstanding_fine hash keys s well given strings state tip which)))
      (all_quiet waits_line (awaited s all)
      (λ party i. waits_quiet party (each_filter IsNamed (λ p. list_any (waits_for p) all) (people s) (people_named hash s well) party i)))

  past_quiet : (course : Course) → CourseNamed s.advert course → Lined (past_text course) []
  past_quiet course k =
      together (flat_map happened_text course.history) (flat_map live_line course.state.live ++ flat_map paid_line course.state.made) [] []
      (all_quiet happened_text course.history (λ h i. happened_quiet h (k.history h i)))
      (together (flat_map live_line course.state.live) (flat_map paid_line course.state.made) [] []
      (all_quiet live_line course.state.live (λ o i. live_quiet o))
      (all_quiet paid_line course.state.made (λ o i. paid_quiet o (k.made o i))))

  -- its lines of secrets are those of what is known
  pub state_lined : (course : Course) (tip : ℕ) (given : List Signed) (strings : List Shown) → CourseNamed s.advert course
      → ((name bytes : List ℕ) → string_for (known course.state strings) name ≡ Some bytes → IsKnown hash s name bytes)
      → Each IsNamed (needed_secrets s.advert)
      → Lined (state_text hash keys s course tip given strings) (secret_lines (known course.state strings) (needed_secrets s.advert))
  state_lined course tip given strings k are named =
      let told = known course.state strings in
      let said = secret_lines told (needed_secrets s.advert) in
      let rest = prospects_text hash keys s given told course.state tip in
      let h = together (past_text course) (secrets_text s told ++ (height_line tip ++ rest)) [] (said ++ ([] ++ []))
      (past_quiet course k)
      (together (secrets_text s told) (height_line tip ++ rest) said ([] ++ [])
      (secrets_loud hash s told are (needed_secrets s.advert) named)
      (together (height_line tip) rest [] [] (height_quiet tip) (prospects_quiet given told course.state tip))) in
      record { lines = h.lines; ends = h.ends; is = h.is; speaks = h.speaks ∙ append-nil said }
