-- What is missing and what is printed, by the transactions, is what is defined.
use Rattle.std.proofs.Common.{◌≡◌, ℕ, ◌+◌, List, [], ◌∷◌, ◌++◌, length, map, Bool, true, false, not, cond, refl, sym, ap, ◌∙◌, append_assoc, append-nil, arith}
use Rattle.std.specs.Prelude.{filter, ◌==◌, ◌&&◌, ◌||◌, Option, Some, None, is_some, codes}
use Rattle.std.specs.List.{flat_map, list_any}
use Rattle.std.proofs.lemmas.Bool.Decides.{nat_tests}
use Rattle.spec_bitcoin.specs.declared.label.Label.{Label}
use Rattle.spec_terms.specs.Advert.{Advert}
use Rattle.spec_terms.specs.Parties.{participants}
use Rattle.spec_terms.specs.Precondition.{secrets, names_of}
use Rattle.spec_compiler.specs.Keyed.Instance.{Instance, people}
use Rattle.spec_compiler.specs.Keyed.Keys.{Keys}
use Rattle.spec_compiler.specs.declared.unsigned.Spent.{Spent}
use Rattle.spec_compiler.specs.declared.unsigned.Unsigned.{Unsigned}
use Rattle.spec_tool.specs.declared.which.Which.{Which}
use Rattle.spec_tool.specs.declared.which.Which.TheVariants as names
use Rattle.spec_tool.specs.Keyed.Listed.{Listed, listed, same_which}
use Rattle.spec_deal.specs.declared.entry.Shown.{Shown}
use Rattle.spec_deal.specs.declared.finish.Verb.{Verb}
use Rattle.spec_deal.specs.declared.signed.Signed.{Signed}
use Rattle.spec_deal.specs.declared.transaction.Transaction.{Transaction}
use Rattle.spec_deal.specs.declared.transaction.Wallet.{Wallet}
use Rattle.spec_deal.specs.Finished.{which_branch}
use Rattle.spec_deal.specs.Given.{has, is_unverified}
use Rattle.spec_deal.specs.SecretFile.{string_for}
use Rattle.spec_deal.specs.Slots.{Slot, listed_slots, slots}
use Rattle.spec_deal.specs.Transactions.{transaction, transactions}
use Rattle.spec_chain.specs.declared.output.Output.{Output}
use Rattle.spec_chain.specs.declared.requirement.Requirement.{Requirement}
use Rattle.spec_chain.specs.declared.requirement.Requirement.TheVariants as requirements
use Rattle.spec_chain.specs.Chain.{Course}
use Rattle.spec_chain.specs.Following.{State}
use Rattle.spec_chain.specs.Outstanding as spec
use Rattle.spec_chain.specs.Outstanding.{asked, known, is_needed_for, signature_requirement, signature_requirements, height_requirements}
use Rattle.spec_chain.specs.Outstanding.{unverified_for, deposits_outstanding, secrets_outstanding, outstanding, waits_for}
use Rattle.spec_chain.specs.StateText.{state_text, string_line, height_line, unverified_line, prospect_text, waits_line, past_text, prospects_text}
use Rattle.deal_missing.specs.Required.{Required, required}
use Rattle.deal_missing.proofs.Told as missing
use Rattle.deal_state.specs.declared.signatures.Unverified.{Unverified}
use Rattle.deal_state.specs.Lines as by
use Rattle.deal_state.specs.Lines.{unverified_text}
use Rattle.deal_state.specs.Prospects.{initial_if, asked_by, is_needed_by, requirement_of, requirement_unless, signatures_by}
use Rattle.deal_state.specs.Prospects.{unverified_when, unverified_if_needed, unverified_by, predicate_if, parts_by, outstanding_by}
use Rattle.deal_state.specs.Prospects.{Chance, chance_of, prospects_by, chance_text, is_awaited_by, future_text, state_by, text_by}
use Rattle.deal_state.proofs.Worded.{unverified_is}

-- ---- what may come

initial_is : (made : List Output) → initial_if made ≡ cond (not (length made == 0)) [] (names.Init ∷ [])
initial_is [] = refl
initial_is (o ∷ os) = ap (λ b. cond (not b) [] (names.Init ∷ [])) (sym (is_some_length os))
  where
    is_some_length : (xs : List Output) → (length (o ∷ xs) == 0) ≡ false
    is_some_length xs = grind (arith, nat_tests)

asked_is : (s : Instance) (state : State) → asked_by s.advert state ≡ asked s state
asked_is s state = ap (λ (ws : List Which). ws ++ flat_map (spec.branches_of s) state.live) (initial_is state.made)

-- ---- signatures

map_append : {X Y : Type 0} (f : X → Y) (xs ys : List X) → map f (xs ++ ys) ≡ map f xs ++ map f ys
map_append f [] ys = refl
map_append f (x ∷ xs) ys = ap (λ more. f x ∷ more) (map_append f xs ys)

needed_is : (which : Which) (slot : Slot) → is_needed_for which slot ≡ is_needed_by which (same_which slot.which which) slot.verb
needed_is names.Init slot = refl
needed_is (names.At path) slot = refl

module _ (hash : List ℕ → List ℕ) (keys : Keys) where
  -- all that are needed
  abbrev wanted : List Slot → List Required
  wanted xs = map (missing.requirement_of hash keys) xs

  all_listed : (advert : Advert) (ls : List Listed)
      → wanted (flat_map (listed_slots keys advert) ls) ≡ required (map (transaction hash keys advert) ls)
  all_listed advert [] = refl
  all_listed advert (l ∷ ls) =
      map_append (missing.requirement_of hash keys) (listed_slots keys advert l) (flat_map (listed_slots keys advert) ls)
      ∙ (λ j. missing.listed_required hash keys advert l j ++ all_listed advert ls j)

  wanted_is : (s : Instance) → required (transactions hash keys s) ≡ wanted (slots hash keys s)
  wanted_is s = sym (all_listed s.advert (listed hash keys s))

  -- ---- a slot by its wallet

  module _ (which : Which) (pending : Unsigned) (k : ℕ) (spent : Spent) (label : Label) (verb : Verb) where
    abbrev slot_with : Option Wallet → Slot
    slot_with wallet =
        record { which = which; pending = pending; input = k; spent = spent; label = label; verb = verb; wallet = wallet }

    requirement_with : (wallet : Option Wallet)
        → requirement_of (missing.requirement_of hash keys (slot_with wallet)) ≡ signature_requirement (slot_with wallet)
    requirement_with None = refl
    requirement_with (Some w) = refl

    line_with : (wallet : Option Wallet) (needed there : Bool)
        → flat_map unverified_text (cond needed (unverified_when there (missing.requirement_of hash keys (slot_with wallet)) wallet) [])
        ≡ cond (needed && (is_some wallet && there)) (unverified_line (slot_with wallet)) []
    line_with None true there = refl
    line_with None false there = refl
    line_with (Some w) true true =
        append-nil (unverified_text (record { which = which; input = k; deposit = w.deposit; verb = verb }))
        ∙ unverified_is (record { which = which; input = k; deposit = w.deposit; verb = verb })
    line_with (Some w) true false = refl
    line_with (Some w) false there = refl

  requirement_is : (slot : Slot) → requirement_of (missing.requirement_of hash keys slot) ≡ signature_requirement slot
  requirement_is slot = requirement_with slot.which slot.pending slot.input slot.spent slot.label slot.verb slot.wallet

  line_is : (slot : Slot) (needed there : Bool)
      → flat_map unverified_text (cond needed (unverified_when there (missing.requirement_of hash keys slot) slot.wallet) [])
      ≡ cond (needed && (is_some slot.wallet && there)) (unverified_line slot) []
  line_is slot needed there = line_with slot.which slot.pending slot.input slot.spent slot.label slot.verb slot.wallet needed there

  module _ (given : List Signed) (which : Which) where
    -- those of these signatures that are needed and aren't there
    abbrev lacking : List Slot → List Slot
    lacking xs = filter (λ slot. not (has hash keys given slot)) xs

    abbrev requirements_of : List Slot → List Requirement
    requirements_of xs = map signature_requirement (filter (is_needed_for which) (lacking xs))

    one_more : (x : Slot) (xs : List Slot) (needed there : Bool) → is_needed_for which x ≡ needed → has hash keys given x ≡ there
        → requirements_of (x ∷ xs) ≡ cond needed (requirement_unless there (signature_requirement x)) [] ++ requirements_of xs
    one_more x xs true true n h = ap (λ b. map signature_requirement (filter (is_needed_for which) (cond (not b) (x ∷ lacking xs) (lacking xs)))) h
    one_more x xs false true n h = ap (λ b. map signature_requirement (filter (is_needed_for which) (cond (not b) (x ∷ lacking xs) (lacking xs)))) h
    one_more x xs true false n h =
        ap (λ b. map signature_requirement (filter (is_needed_for which) (cond (not b) (x ∷ lacking xs) (lacking xs)))) h
        ∙ ap (λ b. map signature_requirement (cond b (x ∷ filter (is_needed_for which) (lacking xs)) (filter (is_needed_for which) (lacking xs)))) n
    one_more x xs false false n h =
        ap (λ b. map signature_requirement (filter (is_needed_for which) (cond (not b) (x ∷ lacking xs) (lacking xs)))) h
        ∙ ap (λ b. map signature_requirement (cond b (x ∷ filter (is_needed_for which) (lacking xs)) (filter (is_needed_for which) (lacking xs)))) n

    all_missing : (xs : List Slot) → requirements_of xs ≡ signatures_by given which (wanted xs)
    all_missing [] = refl
    all_missing (x ∷ xs) =
        one_more x xs (is_needed_for which x) (has hash keys given x) refl refl
        ∙ (λ j.
        cond (needed_is which x j) (requirement_unless (missing.has_is hash keys given x j) (sym (requirement_is x) j)) [] ++ all_missing xs j)

    signatures_are : (s : Instance)
        → signatures_by given which (required (transactions hash keys s)) ≡ signature_requirements hash keys s given which
    signatures_are s = ap (signatures_by given which) (wanted_is s) ∙ sym (all_missing (slots hash keys s))

    -- ---- witnesses of wallets

    abbrev unverified_in : List Slot → List Slot
    unverified_in xs = filter (λ slot. is_needed_for which slot && is_unverified hash keys given slot) xs

    texts_append : (us vs : List Unverified) → flat_map unverified_text (us ++ vs) ≡ flat_map unverified_text us ++ flat_map unverified_text vs
    texts_append [] vs = refl
    texts_append (u ∷ us) vs =
        ap (λ more. unverified_text u ++ more) (texts_append us vs)
        ∙ sym (append_assoc (unverified_text u) (flat_map unverified_text us) (flat_map unverified_text vs))

    line_more : (b : Bool) (x : Slot) (xs : List Slot)
        → cond b (unverified_line x) [] ++ flat_map unverified_line xs ≡ flat_map unverified_line (cond b (x ∷ xs) xs)
    line_more true x xs = refl
    line_more false x xs = refl

    all_unverified : (xs : List Slot)
        → flat_map unverified_text (unverified_by given which (wanted xs)) ≡ flat_map unverified_line (unverified_in xs)
    all_unverified [] = refl
    all_unverified (x ∷ xs) =
        texts_append (unverified_if_needed given which (missing.requirement_of hash keys x)) (unverified_by given which (wanted xs))
        ∙ (λ j.
        flat_map unverified_text
        (cond (sym (needed_is which x) j)
        (unverified_when (sym (missing.has_is hash keys given x) j) (missing.requirement_of hash keys x) x.wallet) [])
        ++ all_unverified xs j)
        ∙ ap (λ line. line ++ flat_map unverified_line (unverified_in xs)) (line_is x (is_needed_for which x) (has hash keys given x))
        ∙ line_more (is_needed_for which x && is_unverified hash keys given x) x (unverified_in xs)

    unverified_are : (s : Instance) → flat_map unverified_text (unverified_by given which (required (transactions hash keys s)))
        ≡ flat_map unverified_line (unverified_for hash keys s given which)
    unverified_are s =
        ap (λ ws. flat_map unverified_text (unverified_by given which ws)) (wanted_is s) ∙ all_unverified (slots hash keys s)

-- ---- deposits and secrets

predicate_is : (b : Bool) → predicate_if b ≡ cond b (requirements.PredicateFalse ∷ []) []
predicate_is true = refl
predicate_is false = refl

module _ (s : Instance) (strings : List Shown) (state : State) where
  abbrev parts : Which → List Requirement
  parts which =
      map requirements.Deposit (deposits_outstanding s state which)
      ++ (map (spec.secret_requirement s) (secrets_outstanding s strings which)
      ++ (spec.gone_requirements (deposits_outstanding s state which) ++ spec.predicate_requirements s strings which))

  parts_are : (which : Which) → parts_by s.advert strings state.live which ≡ parts which
  parts_are names.Init = refl
  parts_are (names.At path) =
      let which = names.At path in
      ap (λ (more : List Requirement).
      map requirements.Deposit (deposits_outstanding s state which)
      ++ (map (spec.secret_requirement s) (secrets_outstanding s strings which)
      ++ (spec.gone_requirements (deposits_outstanding s state which) ++ more)))
      (predicate_is (spec.is_false strings (secrets_outstanding s strings which) (which_branch s which)))

-- ---- all that is missing

module _ (hash : List ℕ → List ℕ) (keys : Keys) (s : Instance) (given : List Signed) (strings : List Shown) (state : State) (tip : ℕ) where
  abbrev ts : List Transaction
  ts = transactions hash keys s

  outstanding_is : (which : Which)
      → outstanding_by s.advert ts (required ts) given strings state tip which ≡ outstanding hash keys s given strings state tip which
  outstanding_is which = λ j.
      height_requirements ts tip which ++ (signatures_are hash keys given which s j ++ parts_are s strings state which j)

  abbrev prospects_of : List Which → List Chance
  prospects_of ws = prospects_by s.advert ts (required ts) given strings state tip ws

  prospect_is : (which : Which) (us : List Unverified) (xs : List Slot) (rs : List Requirement)
      → flat_map unverified_text us ≡ flat_map unverified_line xs → by.prospect_text which us rs ≡ prospect_text which xs rs
  prospect_is which us xs [] e = ap (λ more. by.verdict_line (codes "can") which ++ more) e
  prospect_is which us xs (r ∷ rs) e = refl

  chance_is : (which : Which) → chance_text (chance_of s.advert ts (required ts) given strings state tip which)
      ≡ prospect_text which (unverified_for hash keys s given which) (outstanding hash keys s given strings state tip which)
  chance_is which =
      prospect_is which (unverified_by given which (required ts)) (unverified_for hash keys s given which)
      (outstanding_by s.advert ts (required ts) given strings state tip which) (unverified_are hash keys given which s)
      ∙ ap (prospect_text which (unverified_for hash keys s given which)) (outstanding_is which)

  prospects_told : (ws : List Which) → flat_map chance_text (prospects_of ws)
      ≡ flat_map
      (λ which. prospect_text which (unverified_for hash keys s given which) (outstanding hash keys s given strings state tip which))
      ws
  prospects_told [] = refl
  prospects_told (w ∷ ws) = λ j. chance_is w j ++ prospects_told ws j

  any_waits : (party : List ℕ) (ws : List Which) → is_awaited_by (prospects_of ws) party
      ≡ list_any (waits_for party) (map (outstanding hash keys s given strings state tip) ws)
  any_waits party [] = refl
  any_waits party (w ∷ ws) = λ j. waits_for party (outstanding_is w j) || any_waits party ws j

  future_is : (ws : List Which) → future_text (people s) (prospects_of ws)
      ≡ flat_map
      (λ which. prospect_text which (unverified_for hash keys s given which) (outstanding hash keys s given strings state tip which))
      ws
      ++ flat_map waits_line (spec.awaited s (map (outstanding hash keys s given strings state tip) ws))
  future_is ws = λ j.
      prospects_told ws j ++ flat_map waits_line (filter (λ party. any_waits party ws j) (people s))

-- ---- the text

state_is : (hash : List ℕ → List ℕ) (keys : Keys) (s : Instance) (course : Course) (tip : ℕ) (given : List Signed) (strings : List Shown)
    → text_by s.advert (transactions hash keys s) course tip given strings ≡ state_text hash keys s course tip given strings
state_is hash keys s course tip given strings =
    ap (λ (future : List ℕ).
    past_text course
    ++ (flat_map (λ name. string_line name (string_for (known course.state strings) name)) (names_of (secrets s.advert.pre))
    ++ (height_line tip ++ future)))
    (ap (λ ws. future_text (people s) (prospects_of hash keys s given (known course.state strings) course.state tip ws)) (asked_is s course.state)
    ∙ future_is hash keys s given (known course.state strings) course.state tip (asked s course.state))

pub text_is : (hash : List ℕ → List ℕ) (keys : Keys) (s : Instance) (advert : Advert) (ts : List Transaction) (course : Course) (tip : ℕ)
    (given : List Signed) (strings : List Shown) → s.advert ≡ advert → ts ≡ transactions hash keys s
    → text_by advert ts course tip given strings ≡ state_text hash keys s course tip given strings
text_is hash keys s advert ts course tip given strings a t =
    (λ j. text_by (sym a j) (t j) course tip given strings) ∙ state_is hash keys s course tip given strings
