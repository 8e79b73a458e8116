-- No event makes more outputs than a gift can.
use Rattle.std.proofs.Common.{◌≡◌, ℕ, suc, ◌+◌, ◌*◌, ◌≤◌, List, [], ◌∷◌, ◌++◌, length, true, Option, Some, None, Result, Ok, Err}
use Rattle.std.proofs.Common.{refl, sym, ap, subst, ◌∙◌, arith, length-append}
use Rattle.std.specs.Prelude.{nat_le, slice_get, option_map, option_and_then}
use Rattle.std.specs.List.{flat_map}
use Rattle.std.proofs.lemmas.Bool.{and_parts}
use Rattle.std.proofs.lemmas.Bool.Decides.{nat_tests}
use Rattle.std.proofs.lemmas.List.Concat.{flat_map-cons}
use Rattle.spec_data.specs.Lists.{first_reason}
use Rattle.spec_terms.specs.Term as term
use Rattle.spec_terms.specs.Term.{Contract, Parts, no_part, part, parts_list, auth, after, put_reveal, withdraw, split}
use Rattle.spec_terms.specs.Core.{core}
use Rattle.spec_terms.specs.Readable.{is_readable_branch, is_readable_split, are_readable_parts, is_some_list, most_parts}
use Rattle.spec_terms.specs.declared.path.PathStep.{PathStep}
use Rattle.spec_terms.specs.declared.path.PathStep.TheVariants.{Branch as To}
use Rattle.spec_bitcoin.specs.declared.tx.Tx.{Tx}
use Rattle.spec_bitcoin.specs.declared.tx.TxOut.{TxOut}
use Rattle.spec_bitcoin.specs.declared.verdict.Verdict.{Verdict}
use Rattle.spec_bitcoin.specs.declared.verdict.Verdict.TheVariants as verdicts
use Rattle.spec_bitcoin.specs.Spelling.{long_word, sized, output_bytes}
use Rattle.spec_bitcoin.specs.Digests.{txid}
use Rattle.spec_bitcoin.specs.Reading.{transaction_of}
use Rattle.spec_compiler.specs.Instance.{Instance}
use Rattle.spec_compiler.specs.declared.prepared.Prepared.{Prepared}
use Rattle.spec_compiler.specs.Transactions.{Standing, prepared, part_outputs, core_outputs, branch_unsigned, root_standing}
use Rattle.spec_compiler.specs.ByPath as by_path
use Rattle.spec_compiler.specs.ByPath.{PathEnd, branch_end, continued_end, next_end}
use Rattle.spec_compiler.specs.ByPath.{end_at, as_position, as_unsigned, position_at, prepared_at}
use Rattle.spec_run.specs.declared.event.Event.{Event}
use Rattle.spec_run.specs.declared.event.Event.TheVariants as events
use Rattle.spec_run.specs.declared.outcome.Reason.{Reason}
use Rattle.spec_run.specs.Setup.{Setup}
use Rattle.spec_run.specs.World.{ContractPosition, World, live_position_at}
use Rattle.spec_run.specs.Compiled.{compiled_instance}
use Rattle.spec_run.specs.Conditions.{IsSetup, IsPiece, IsEvent}
use Rattle.spec_run.specs.Pending.{Pending, unless}
use Rattle.spec_run.specs.Committing.{commit_row, digest_row, committed_strings}
use Rattle.spec_run.specs.Advertising.{advertise_row}
use Rattle.spec_run.specs.Signing.{with_pairs, endorse_row, init_row, authorise_row, sign_row, prepared_if_compiled}
use Rattle.spec_run.specs.Revealing.{reveal_row}
use Rattle.spec_run.specs.Giving.{give_row, given_output, given_pairs, gift}
use Rattle.spec_run.specs.Ledger.{spend_from, made_from, kind_of, new_position, verdict_in, judged, reaches, position_path}
use Rattle.spec_run.specs.Firing.{initial_by, taking_of_parts, taking_of_position, reaches_if, fire_init_row, fire_row}
use Rattle.spec_run.specs.Event.{append_read, mine_row, pending}
use Rattle.theory_bitcoin.proofs.Formats.{wide64}
use Rattle.theory_bitcoin.proofs.Top.{read_is_spelled}
use Rattle.theory_script.proofs.Listing.Stands.{some_same, end_from-step}
use Rattle.theory_world.proofs.Tests.{length_map}
use Rattle.theory_world.proofs.Labels.{core_readable}
use Rattle.theory_world.proofs.Ledger.Outputs.{length-spend_from, length-made_from}
use Rattle.theory_world.proofs.Contracts.Checking.{compiled_checked}
use Rattle.theory_run.proofs.Sizes.{outputs_short}
use Rattle.theory_run.proofs.Facts.Readings.{branch_is_readable}

-- ---- outputs of one transaction

abbrev pub most_births : ℕ
most_births = 262144

abbrev Few : Tx → Type 0
Few tx = length tx.outputs ≤ most_births

abbrev FewIf : Option Tx → Type 0
FewIf None = Unit {0}
FewIf (Some tx) = Few tx

-- each output has eight bytes at least
eight_bytes : (os : List TxOut) → 8 * length os ≤ length (flat_map output_bytes os)
eight_bytes [] = omega arith
eight_bytes (o ∷ os) =
    omega (
      arith,
      ap length (flat_map-cons output_bytes o os) ∙ length-append (output_bytes o) (flat_map output_bytes os),
      length-append (long_word o.value) (sized o.script),
      wide64.len o.value,
      eight_bytes os,
    )

-- a raw transaction
few_read : (bytes : List ℕ) → IsPiece bytes → (tx : Tx) → transaction_of bytes ≡ Ok tx → Few tx
few_read bytes piece tx h =
    let size = ap length (read_is_spelled bytes tx piece.bytes h).same in
    omega (arith, eight_bytes tx.outputs, outputs_short tx, size, piece.size)

count_parts : (hash : List ℕ → List ℕ) (st : Instance) (path : List PathStep) (k : ℕ) (ps : Parts)
    → length (part_outputs hash st path k ps) ≡ length (parts_list ps)
count_parts hash st path k no_part = refl
count_parts hash st path k (part v c ps) = ap suc (count_parts hash st path (k + 1) ps)

few_core : (hash : List ℕ → List ℕ) (st : Instance) (path : List PathStep) (v : ℕ) (c : term.Guarded) → is_readable_branch c ≡ true
    → length (core_outputs hash st path v c) ≤ most_births
few_core hash st path v (put_reveal puts reveals test next) r = omega arith
few_core hash st path v (withdraw party) r = omega arith
few_core hash st path v (split ps) r =
    let count = (and_parts (is_readable_split ps) (are_readable_parts ps) r).0 in
    let most = (and_parts (is_some_list (parts_list ps)) (nat_le (length (parts_list ps)) most_parts) count).1 in
    let few : length (parts_list ps) ≤ most_parts = grind (arith, nat_tests, most) in
    omega (arith, few, count_parts hash st path 0 ps)
few_core hash st path v (auth party body) r = omega arith
few_core hash st path v (after height body) r = omega arith

-- ---- a branch's transaction

module _ (s : Setup) (is : IsSetup s) (w : World) where
  module _ (k : ℕ) (st : Instance) (compiled : compiled_instance s w k ≡ Some st) where
    abbrev FewEnd : Option PathEnd → Type 0
    FewEnd o = (here : Standing) (i : ℕ) (b : term.Guarded) → o ≡ Some (by_path.at_branch here i b) → is_readable_branch b ≡ true

    abbrev root_end : PathEnd
    root_end = by_path.at_position (root_standing s.hash st) st.advert.root

    -- a branch of a position is as text may have it
    branch_few : (q : List PathStep) (here : Standing) (choice : Contract) (j : ℕ) → position_at s.hash st q ≡ Some (here, choice)
        → FewEnd (branch_end here choice j)
    branch_few q here choice j stands = by_branch (slice_get (term.branches choice) j) refl
      where
        by_branch : (o : Option term.Guarded) → slice_get (term.branches choice) j ≡ o → FewEnd (option_map (by_path.at_branch here j) o)
        by_branch None e = λ there i b h. cc
        by_branch (Some c) e = λ there i b h.
            let readable = branch_is_readable s.hash st (compiled_checked s is w k st compiled) q here choice j c stands e in
            let same : c ≡ b = cc in
            subst (λ x. is_readable_branch x ≡ true) same readable

    step_few : (q : List PathStep) (j : ℕ) (o : Option PathEnd) → end_at s.hash st q ≡ o
        → FewEnd (option_and_then (next_end s.hash st (To j)) o)
    step_few q j None e = λ there i b h. cc
    step_few q j (Some (by_path.at_position here choice)) e =
        branch_few q here choice j (ap (option_and_then (as_position s.hash st)) e)
    step_few q j (Some (by_path.at_branch here i b)) e =
        by_continued (continued_end s.hash st here i b (core b)) (ap (option_and_then (as_position s.hash st)) e)
      where
        by_continued : (c : Option (Standing × Contract)) → position_at s.hash st q ≡ c
            → FewEnd (option_and_then (λ (p : Standing × Contract). branch_end p.0 p.1 j) c)
        by_continued None f = λ there k2 b2 h. cc
        by_continued (Some p) f = branch_few q p.0 p.1 j f

    end_few : (q : List PathStep) (j : ℕ) → FewEnd (end_at s.hash st (q ++ To j ∷ []))
    end_few q j = subst FewEnd (sym (end_from-step s.hash st root_end q (To j))) (step_few q j (end_at s.hash st q) refl)

    prepared_few : (o : Option PathEnd) → FewEnd o → (made : Prepared)
        → option_map (prepared s.hash) (option_and_then (as_unsigned s.hash st) o) ≡ Some made → Few made.tx
    prepared_few None f made h = cc
    prepared_few (Some (by_path.at_position here choice)) f made h = cc
    prepared_few (Some (by_path.at_branch here i b)) f made h =
        let few = few_core s.hash st _ here.output.value (core b) (core_readable b (f here i b refl)) in
        let same : prepared s.hash (branch_unsigned s.hash st here i b) ≡ made = some_same h in
        subst (λ (m : Prepared). Few m.tx) same few

  parts_few : (held : ContractPosition) (j : ℕ) (o : Option Instance) → compiled_instance s w held.contract ≡ o
      → (c : Option Contract) (b : Option term.Guarded) (m : Option Prepared) → prepared_if_compiled s o (position_path held j) ≡ m
      → FewIf (taking_of_parts s w held j o c b m)
  parts_few held j None compiled c b m made = tt
  parts_few held j (Some st) compiled None b m made = tt
  parts_few held j (Some st) compiled (Some choice) None m made = tt
  parts_few held j (Some st) compiled (Some choice) (Some b) None made = tt
  parts_few held j (Some st) compiled (Some choice) (Some b) (Some m) made =
      prepared_few held.contract st compiled (end_at s.hash st (position_path held j))
      (end_few held.contract st compiled held.position j) m made

  taking_few : (held : Option ContractPosition) (j : ℕ) → FewIf (taking_of_position s w held j)
  taking_few None j = tt
  taking_few (Some held) j = parts_few held j (compiled_instance s w held.contract) refl _ _ _ refl

  initial_few : (o : Option Instance) → FewIf (initial_by s o)
  initial_few None = tt
  initial_few (Some st) = let few : 1 ≤ most_births = omega arith in few

  -- ---- one event

  abbrev Grows : Pending → Type 0
  Grows d = length d.world.outputs ≤ length w.outputs + most_births

  same_grows : length w.outputs ≤ length w.outputs + most_births
  same_grows = omega arith

  unless_grows : (r : Option Reason) (hashes : List (List ℕ)) (d : Pending) → Grows d → Grows (unless r w hashes d)
  unless_grows None hashes d h = h
  unless_grows (Some r) hashes d h = same_grows

  judged_grows : (pairs : List (List ℕ × List ℕ)) (tx : Tx) (v : Verdict) → Few tx → Grows (judged s w (record w { book = pairs }) tx v)
  judged_grows pairs tx (verdicts.Refused r) few = same_grows
  judged_grows pairs tx (verdicts.Accepted spent made) few =
      let kind = kind_of s (record w { book = pairs }) tx spent in
      let old = spend_from 0 spent w.outputs in
      let new = made_from (new_position s kind) (txid s.hash tx) 0 tx.outputs in
      omega (
        arith,
        length-append old new,
        length-spend_from 0 spent w.outputs,
        length-made_from (new_position s kind) (txid s.hash tx) 0 tx.outputs,
        few,
      )

  reaches_grows : (pairs : List (List ℕ × List ℕ)) (tx : Tx) → Few tx → Grows (reaches s w (record w { book = pairs }) tx)
  reaches_grows pairs tx few = judged_grows pairs tx (verdict_in s (record w { book = pairs }) tx) few

  reaches_if_grows : (o : Option Tx) → FewIf o → Grows (reaches_if s w o)
  reaches_if_grows None few = same_grows
  reaches_if_grows (Some tx) few = reaches_grows w.book tx few

  read_grows : (bytes : List ℕ) → IsPiece bytes → (r : Result Tx ℕ) → transaction_of bytes ≡ r → Grows (append_read s w r)
  read_grows bytes piece (Ok tx) h = reaches_grows w.book tx (few_read bytes piece tx h)
  read_grows bytes piece (Err place) h = same_grows

  pub event_grows : (e : Event) → IsEvent s e → Grows (pending s w e)
  event_grows (events.Advertise contract bindings) h = unless_grows (first_reason (advertise_row s w contract bindings)) [] _ same_grows
  event_grows (events.Commit contract party digests) h =
      unless_grows (first_reason (commit_row s w contract party digests)) [] _
      (unless_grows (first_reason (digest_row s w contract party digests)) (committed_strings s contract party) _ same_grows)
  event_grows (events.Endorse contract party) h = unless_grows (first_reason (endorse_row s w contract party)) [] _ same_grows
  event_grows (events.Init contract party) h = unless_grows (first_reason (init_row s w contract party)) [] _ same_grows
  event_grows (events.Authorise party n i) h = unless_grows (first_reason (authorise_row s w party n i)) [] _ same_grows
  event_grows (events.Reveal contract party secret) h = unless_grows (first_reason (reveal_row s w contract party secret)) [] _ same_grows
  event_grows (events.Post bytes) h = same_grows
  event_grows (events.Sign party label digest) h = unless_grows (first_reason (sign_row s party label)) [] _ same_grows
  event_grows (events.Give party inputs outputs) h =
      let few : length (gift s w party inputs outputs).outputs ≤ most_births = omega (
        arith,
        length_map
            (given_output s) outputs,
        h.few_outputs,
      ) in
      unless_grows (first_reason (give_row s w party inputs outputs)) [] _
      (reaches_grows (with_pairs w (given_pairs s w party inputs outputs)).book (gift s w party inputs outputs) few)
  event_grows (events.Append bytes) h = read_grows bytes h (transaction_of bytes) refl
  event_grows (events.FireInit contract) h =
      unless_grows (first_reason (fire_init_row s w contract)) [] _
      (reaches_if_grows (initial_by s (compiled_instance s w contract)) (initial_few (compiled_instance s w contract)))
  event_grows (events.Fire n i) h =
      unless_grows (first_reason (fire_row s w n i)) [] _
      (reaches_if_grows (taking_of_position s w (live_position_at w n) i) (taking_few (live_position_at w n) i))
  event_grows (events.Mine blocks) h = unless_grows (first_reason (mine_row w blocks)) [] _ same_grows
