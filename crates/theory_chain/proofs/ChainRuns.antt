-- Every chain of a deal that isn't refused is a legal run, whose end is what the chain shows.
use Rattle.std.proofs.Common.{◌≡◌, ℕ, ◌+◌, ◌-◌, ◌≤◌, List, [], ◌∷◌, length, map, true, Option, Some, None}
use Rattle.std.proofs.Common.{refl, sym, ap, subst, ◌∙◌, inl, inr, arith}
use Rattle.std.specs.Prelude.{◌⊎◌, ◌&&◌, nat_le}
use Rattle.std.specs.List.{flat_map}
use Rattle.std.specs.Option.{option_map, option_map_or}
use Rattle.std.specs.Str.{bytes_eq}
use Rattle.std.proofs.lemmas.Bool.{and_parts}
use Rattle.std.proofs.lemmas.Bool.Decides.{nat_tests}
use Rattle.spec_data.specs.Lists.{look_up}
use Rattle.spec_data.specs.Ranges.{last_height, least_secret_bytes, most_item_bytes, most_secret_length}
use Rattle.spec_terms.specs.Precondition.{deposits, names_of}
use Rattle.spec_terms.specs.declared.path.PathStep.{PathStep}
use Rattle.spec_calculus.specs.declared.step.Owner.TheVariants as owners
use Rattle.spec_calculus.specs.declared.parts.Deposit.{Deposit as LiveDeposit}
use Rattle.spec_calculus.specs.Configuration.{Configuration}
use Rattle.spec_calculus.specs.Moves.{deposit_at}
use Rattle.spec_calculus.specs.Steps.{after_steps}
use Rattle.spec_compiler.specs.Scripts.{digest_of}
use Rattle.spec_compiler.specs.Keyed.ByPath.{outpoint_at}
use Rattle.spec_compiler.specs.Keyed.Instance.{Instance}
use Rattle.spec_compiler.specs.Keyed.Keys.{Keys}
use Rattle.spec_compiler.specs.Keyed.Statements.{is_secret}
use Rattle.spec_compiler.specs.Keyed.Transactions.{Standing}
use Rattle.spec_terms.specs.Term.{Contract}
use Rattle.spec_text.specs.Lines.{lines_of}
use Rattle.spec_deal.specs.declared.entry.Shown.{Shown}
use Rattle.spec_deal.specs.Setting.{deal_keys, deal_instance}
use Rattle.spec_deal.specs.Transactions.{transactions}
use Rattle.theory_calculus.specs.Members.{Is_in}
use Rattle.theory_calculus.proofs.Members.{in_left, in_from_contains, all_in}
use Rattle.theory_calculus.proofs.Names.{in_looked, looked_in}
use Rattle.theory_calculus.proofs.Runs.{runs_are_one}
use Rattle.spec_chain.specs.declared.output.Held.{Held}
use Rattle.spec_chain.specs.declared.output.Held.TheVariants as helds
use Rattle.spec_chain.specs.declared.output.Output.{Output}
use Rattle.spec_chain.specs.declared.reading.Confirmed.{Confirmed}
use Rattle.spec_chain.specs.Chain.{Course, stands, follow_chain, opening_course}
use Rattle.spec_chain.specs.ChainFile.{read_chain}
use Rattle.spec_chain.specs.Following.{State}
use Rattle.spec_chain.specs.Outputs.{is_position, deposit_outputs}
use Rattle.spec_chain.specs.Outstanding.{known}
use Rattle.theory_chain.specs.ChainSteps.{deal_bindings, deal_opening, chain_run, AreLengths, is_taken, left_from, paid_deposit}
use Rattle.theory_chain.specs.Follows.{LeadsTo}
use Rattle.theory_chain.specs.Files.{AreLines}
use Rattle.theory_chain.specs.Runs.{IsRunWith, IsRun, ChainsAreRuns}
use Rattle.theory_chain.proofs.Courses.{followed_exactly}
use Rattle.theory_chain.proofs.FileReads.{chains_are_spelled}
use Rattle.theory_chain.proofs.Stays.{known_fit}
use Rattle.theory_chain.proofs.Deals.Outputs.{numbered_in, deposit_of}
use Rattle.theory_chain.proofs.Deals.Taken.{whole_deal}
use Rattle.theory_chain.proofs.Deals.Transactions.{IsHeld, IsPosition}
use Rattle.theory_chain.proofs.Deals.Whole.{Whole, in_map}
use Rattle.theory_chain.proofs.Runs.All.{Rising, AllSpelled, WholeRun, whole_run, deposits_apart}
use Rattle.theory_chain.proofs.Runs.Gone.{gone_names}
use Rattle.theory_chain.proofs.Runs.Kept.{Kept}
use Rattle.theory_chain.proofs.Runs.Leaving.{IsLeft, all_leave}
use Rattle.theory_chain.proofs.Runs.Left.{left_there, ascending_found}
use Rattle.theory_chain.proofs.Runs.Tracking.{deposit_number, bound_once}

-- ---- what lines give

-- heights don't fall, and each transaction can be spelled
lines_rise : (n height : ℕ) (lines : List (List ℕ)) (cs : List Confirmed) (tip time : ℕ) → AreLines n height lines cs tip → height ≤ last_height
    → (time ≡ 0) ⊎ (time + 1 ≤ height) → Rising time cs tip × AllSpelled cs × (tip ≤ last_height)
lines_rise n height [] cs tip time (a, b) small start =
    (subst (λ (xs : List Confirmed). Rising time xs tip) (sym a) (below start), subst AllSpelled (sym a) tt, omega (arith, b, small))
  where
    below : (time ≡ 0) ⊎ (time + 1 ≤ height) → time ≤ tip
    below (inl e) = omega (arith, e)
    below (inr l) = omega (arith, b, l)
lines_rise n height (line ∷ lines) cs tip time (inl h) small start = lines_rise (n + 1) height lines cs tip time h.1 small start
lines_rise n height (line ∷ lines) cs tip time (inr (inl h)) small start =
    lines_rise (n + 1) h.0 lines cs tip time h.2 h.1.within (later start)
  where
    later : (time ≡ 0) ⊎ (time + 1 ≤ height) → (time ≡ 0) ⊎ (time + 1 ≤ h.0)
    later (inl e) = inl e
    later (inr l) = inr (let r = h.1.rises in omega (arith, l, r))
lines_rise n height (line ∷ lines) cs tip time (inr (inr h)) small start =
    let b = h.2.begun in
    let r = lines_rise (n + 1) height lines h.1 tip (height - 1) h.4 small (inr (omega (arith, b))) in
    let first : time + 1 ≤ height = at_once start in (
      subst (λ (xs : List Confirmed). Rising time xs tip) (sym h.3) (first, r.0),
      subst AllSpelled (sym h.3) (h.2.spelled.fits, r.1),
      r.2,
    )
  where
    at_once : (time ≡ 0) ⊎ (time + 1 ≤ height) → time + 1 ≤ height
    at_once (inl e) = let b = h.2.begun in omega (arith, e, b)
    at_once (inr l) = l

-- ---- lengths

-- the lengths of what was shown, and 0 for what wasn't
abbrev shown_lengths : State → List ℕ → ℕ
shown_lengths state name = option_map_or (λ bytes. length bytes - least_secret_bytes) (look_up name state.shown) 0

module _ (hash : List ℕ → List ℕ) (keys : Keys) (s : Instance) (text : List ℕ) (course : Course) (tip : ℕ)
    (followed : follow_chain hash keys s text ≡ stands course tip) where
  string_short : (name bytes : List ℕ) → look_up name course.state.shown ≡ Some bytes → length bytes - least_secret_bytes ≤ most_secret_length
  string_short name bytes e =
      let fit = known_fit hash keys s text course tip [] followed refl in
      let x : Shown = record { line = 0; name = name; bytes = bytes } in
      let i = in_map (λ (p : List ℕ × List ℕ). as_shown p) course.state.shown (name, bytes) (looked_in course.state.shown name bytes e) in
      let one = all_in (λ (y : Shown). is_secret hash y.bytes (digest_of s.hashes y.name)) (known course.state []) x fit
      (in_left x (map (λ (p : List ℕ × List ℕ). as_shown p) course.state.shown) [] i) in
      let size = and_parts (nat_le least_secret_bytes (length bytes) && nat_le (length bytes) most_item_bytes)
      (bytes_eq (hash bytes) (digest_of s.hashes name)) one in
      let most = and_parts (nat_le least_secret_bytes (length bytes)) (nat_le (length bytes) most_item_bytes) size.0 in
      within (length bytes) most.1
    where
      as_shown : List ℕ × List ℕ → Shown
      as_shown p = record { line = 0; name = p.0; bytes = p.1 }

      within : (n : ℕ) → nat_le n most_item_bytes ≡ true → n - least_secret_bytes ≤ most_secret_length
      within n h = grind (arith, nat_tests)

  are_lengths : AreLengths (shown_lengths course.state) course.state
  are_lengths = record { fair = λ name. by_string name (look_up name course.state.shown) refl; shown = λ name bytes e. said name bytes e }
    where
      by_string : (name : List ℕ) (o : Option (List ℕ)) → look_up name course.state.shown ≡ o
          → option_map_or (λ bytes. length bytes - least_secret_bytes) o 0 ≤ most_secret_length
      by_string name None e = omega arith
      by_string name (Some bytes) e = string_short name bytes e

      said : (name bytes : List ℕ) → look_up name course.state.shown ≡ Some bytes → shown_lengths course.state name ≡ length bytes - least_secret_bytes
      said name bytes e = ap (λ (o : Option (List ℕ)). option_map_or (λ b. length b - least_secret_bytes) o 0) e

  -- ---- the run

  leads : ((read_chain text).fault ≡ None) × ((read_chain text).tip ≡ tip)
      × LeadsTo hash s (transactions hash keys s) (opening_course hash keys s) (read_chain text).confirmed course
  leads = (followed_exactly hash keys s text course tip).0 followed

  spelled : Rising 0 (read_chain text).confirmed tip × AllSpelled (read_chain text).confirmed × (tip ≤ last_height)
  spelled =
      let p = (chains_are_spelled text (read_chain text).confirmed tip).0
      (λ i. record { confirmed = (read_chain text).confirmed; tip = leads.1 i; fault = leads.0 i }) in
      lines_rise 1 0 (lines_of text) (read_chain text).confirmed tip 0 p.1 (omega arith) (inl refl)

  pub confirmed_spelled : AllSpelled (read_chain text).confirmed
  confirmed_spelled = spelled.1

  module _ (whole : Whole hash keys s) where
    module _ (lengths : List ℕ → ℕ) (are : AreLengths lengths course.state) where
      ran : WholeRun hash keys s whole lengths are.fair tip spelled.2 course
      ran = whole_run hash keys s whole lengths are.fair tip spelled.2 (read_chain text).confirmed course leads.2 spelled.1 spelled.0 are.shown

      abbrev last : Configuration
      last = after_steps (deal_opening s) (chain_run lengths s course tip)

      -- the deposits have ascending numbers
      found : (d : LiveDeposit) → Is_in d last.deposits → deposit_at last.deposits d.number ≡ Some d
      found d h = ascending_found (λ (e : LiveDeposit). e.number) last.deposits d ran.tracked.fine.numbered.deposits h

      is_left : (x : List ℕ) → Is_in x (gone_names course.history) → IsLeft (deal_bindings s) (deposits s.advert.pre) last.deposits x
      is_left x h =
          let k = ran.gone.each x h in
          let e : LiveDeposit = record { number = k.number; owner = owners.Party ((k.deposit.1).owner); value = (k.deposit.1).value } in
          let there = left_there (is_taken s course.history) 0 (deposits s.advert.pre) k.number k.deposit k.numbered
          (ap (is_taken s course.history) k.name ∙ k.untaken) in
          record {
            number = k.number;
            holding = k.deposit.1;
            bound =
                ap (λ (y : List ℕ). look_up y (deal_bindings s)) (sym k.name)
                ∙ deposit_number hash keys s lengths are.fair whole k.number k.deposit k.numbered;
            held =
                ap (λ (y : List ℕ). look_up y (deposits s.advert.pre)) (sym k.name)
                ∙ in_looked (deposits s.advert.pre) k.deposit (deposits_apart hash keys s whole)
                (numbered_in 0 (deposits s.advert.pre) k.number k.deposit k.numbered);
            there =
                found e
                (subst (Is_in e) (sym ran.tracked.deposits)
                (in_left e (left_from (is_taken s course.history) 0 (deposits s.advert.pre)) (flat_map paid_deposit course.state.made) there));
          }

      run_with : IsRunWith s course tip lengths
      run_with = record {
        last = last;
        legal = (runs_are_one (deal_opening s) (chain_run lengths s course tip) last).1 (ran.legal, refl);
        shows = record {
          contracts = ran.tracked.active;
          deposits = ran.tracked.deposits;
          secrets = ran.tracked.revealed;
          time = ran.timed;
          next = ran.tracked.next;
        };
        gone =
            all_leave (deal_bindings s) (deposits s.advert.pre)
            (λ x y m a b. bound_once hash keys s lengths are.fair whole x y 0 m (names_of (deposits s.advert.pre)) a b)
            (gone_names course.history) last ran.gone.apart is_left;
      }

    -- ---- places

    lies : (q : List PathStep) (o : Output) → IsPosition hash keys s q o.place o.value → outpoint_at hash keys s q ≡ Some o.place
    lies q o p =
        ap (option_map (λ (x : Standing × Contract). x.0.output.outpoint)) p.stands ∙ ap Some p.place_is

    pub chain_kept : Kept hash keys s course
    chain_kept = (ran (shown_lengths course.state) are_lengths).kept

    pub placed : (o : Output) (path : List PathStep) → Is_in o course.state.live → o.held ≡ helds.Position path
        → outpoint_at hash keys s path ≡ Some o.place
    placed o path h held = by_kind (chain_kept.live o h)
      where
        no : {x : List ℕ} → helds.Deposit x ≡ helds.Position path → ⊥
        no e = cc

        by_kind : Is_in o (deposit_outputs s) ⊎ (Is_in o course.state.made × (is_position o ≡ true)) → outpoint_at hash keys s path ≡ Some o.place
        by_kind (inl i) =
            let d = deposit_of s o i in
            absurd (no (sym (ap (λ (x : Output). x.held) d.2) ∙ held))
        by_kind (inr i) =
            let c = chain_kept.made o i.0 in
            lies path o (subst (λ (k : Held). IsHeld hash keys s k o.place o.value) held c.fine)

    is_run : IsRun hash keys s course tip
    is_run = record {
      legal = run_with;
      possible = (shown_lengths course.state, are_lengths);
      placed = λ o path h held. placed o path (in_from_contains course.state.live o h) held;
    }

pub chains_are_runs : ChainsAreRuns
chains_are_runs v hash advert deal text course tip d followed =
    is_run hash (deal_keys deal) (deal_instance advert deal) text course tip followed (whole_deal v hash advert deal d)
