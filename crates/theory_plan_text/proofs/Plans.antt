-- What `plan` prints is read as what the run shows of its contract.
use Rattle.std.proofs.Common.{◌≡◌, ℕ, List, [], ◌∷◌, ◌++◌, Option, Some, None, Ok, refl, sym, ap, subst, ◌∙◌, arith}
use Rattle.std.specs.List.{AllByRecursion}
use Rattle.spec_terms.specs.Advert.{Advert}
use Rattle.spec_compiler.specs.Compilation.{compilation}
use Rattle.spec_compiler.specs.Instance.{Instance}
use Rattle.spec_run.specs.declared.event.Event.{Event}
use Rattle.spec_run.specs.declared.event.Run.{Run}
use Rattle.spec_run.specs.Setup.{Setup}
use Rattle.spec_run.specs.Compiled.{compiled_instance}
use Rattle.spec_run.specs.Event.{opening_collision}
use Rattle.spec_run.specs.Statements.{IsRun}
use Rattle.spec_run.specs.Translation.{last_world, last_configuration, first_halt}
use Rattle.spec_text.specs.declared.entry.Entry.{Entry}
use Rattle.spec_text.specs.PlanText.{plan_text, setting_text, unless_halted}
use Rattle.spec_text.specs.PlayText.{Ending, whole, guessed, collided}
use Rattle.spec_text.specs.Played.{entries, ending_from, ending}
use Rattle.spec_text.specs.Refusals.{Judged, run_of, contract_of}
use Rattle.spec_tool.specs.Commands.{JudgedAll, contracts_from, onto_judged, setup_of, with_contracts, with_run, plan_answer}
use Rattle.theory_text.proofs.Options.{some, some_is}
use Rattle.theory_tool.proofs.Headlines.{valid_runs_are}
use Rattle.theory_play_text.specs.Printable.{IsNamed, IsSaid, IsPrintable, starts, entries_lines}
use Rattle.theory_play_text.proofs.ReadRuns.{IsKnownRun, run_known}
use Rattle.theory_play_text.proofs.WholeRuns.{run_printable}
use Rattle.theory_plan_text.specs.Plan.{ShownPlan, plan_of, shown_setting, unless_halts, shown_plan}
use Rattle.theory_plan_text.specs.Statements.{PlansAreRead, SamePlansShowTheSame}
use Rattle.theory_plan_text.proofs.Plannable.{plannable}
use Rattle.theory_plan_text.proofs.PlanTexts.{compilations_back, uncompiled_back, guess_back, collision_back}

-- ---- the line of a halt

abbrev pub EndNamed : Ending → Type 0
EndNamed (whole tip live g offers) = Unit {0}
EndNamed (guessed event party secret) = IsNamed party × IsNamed secret
EndNamed (collided event earlier later) = Unit {0}

behind : {X : Type 0} (P : X → Type 0) (xs ys : List X) → AllByRecursion P (xs ++ ys) → AllByRecursion P ys
behind P [] ys h = h
behind P (x ∷ xs) ys h = behind P xs ys h.1

end_named : (parties : List (List ℕ)) (deposits : List (List ℕ × ℕ)) (es : List Entry) (end : Ending)
    → IsPrintable parties deposits es end → EndNamed end
end_named parties deposits es (whole tip live g offers) h = tt
end_named parties deposits es (guessed event party secret) h =
    let b = behind (IsSaid parties) (entries_lines 1 es) _ (behind (IsSaid parties) (starts 0 deposits) _ h) in b.1.0
end_named parties deposits es (collided event earlier later) h = tt

-- a run that is valid where its opening doesn't collide, as one that is read from a file
pub halts_named : (s : Setup) (es : List Event) → IsKnownRun s.header es → (opening_collision s ≡ None → IsRun s es)
    → EndNamed (ending s es)
halts_named s es known f = by_opening (opening_collision s) refl
  where
    by_opening : (o : Option (List ℕ × List ℕ)) → opening_collision s ≡ o → EndNamed (ending s es)
    by_opening None e =
        end_named s.header.parties s.header.deposits (entries s es) (ending s es) (run_printable s es (f e) known)
    by_opening (Some p) e =
        subst (λ (o : Option (List ℕ × List ℕ)). EndNamed (ending_from (last_world s es) (last_configuration s es) o (first_halt s es)))
        (sym e) tt

-- ---- plans

abbrev some_plan : ShownPlan → Option ShownPlan
some_plan x = some x

setting_back : (s : Setup) (es : List Event) → IsRun s es → (o : Option Instance) → compiled_instance s (last_world s es) 0 ≡ o
    → plan_of (setting_text s.hash o) ≡ some_plan (shown_setting s.hash o)
setting_back s es run None c = uncompiled_back
setting_back s es run (Some instance) c = compilations_back (compilation s.hash instance) (plannable s es run instance c)

unless_back : (end : Ending) (text : List ℕ) (shown : ShownPlan) → EndNamed end → plan_of text ≡ some_plan shown
    → plan_of (unless_halted end text) ≡ some_plan (unless_halts end shown)
unless_back (whole tip live g offers) text shown h e = e
unless_back (guessed event party secret) text shown h e = guess_back party secret h.0 h.1
unless_back (collided event earlier later) text shown h e = collision_back earlier later

pub plan_back : (s : Setup) (es : List Event) → IsKnownRun s.header es → (opening_collision s ≡ None → IsRun s es)
    → plan_of (plan_text s es) ≡ Some (shown_plan s es)
unfolding plan_text
plan_back s es known f =
    let o = compiled_instance s (last_world s es) 0 in
    by_opening (setting_text s.hash o) (shown_setting s.hash o) (λ run. setting_back s es run o refl) (opening_collision s) refl
  where
    by_opening : (text : List ℕ) (shown : ShownPlan) → (IsRun s es → plan_of text ≡ some_plan shown)
        → (p : Option (List ℕ × List ℕ)) → opening_collision s ≡ p
        → plan_of (unless_halted (ending s es) text) ≡ some_plan (unless_halts (ending s es) shown)
    by_opening text shown back None e = unless_back (ending s es) text shown (halts_named s es known f) (back (f e))
    by_opening text shown back (Some p) e =
        subst (λ (o : Option (List ℕ × List ℕ)).
        plan_of (unless_halted (ending_from (last_world s es) (last_configuration s es) o (first_halt s es)) text)
        ≡ some_plan (unless_halts (ending_from (last_world s es) (last_configuration s es) o (first_halt s es)) shown))
        (sym e) (collision_back (p.0) (p.1))

-- ---- files

pub one_contract : (file : List ℕ) (contract : Advert) → contract_of file ≡ Ok contract → contracts_from 0 (file ∷ []) ≡ Ok (contract ∷ [])
one_contract file contract c = ap (λ (j : Judged Advert). onto_judged 0 j (Ok [])) c

plan_printed : (hash : List ℕ → List ℕ) (run_file contract_file : List ℕ) (run : Run) (contract : Advert)
    → run_of run_file ≡ Ok run → contract_of contract_file ≡ Ok contract
    → (plan_answer hash run_file contract_file).text ≡ plan_text (setup_of hash run (contract ∷ [])) run.events
plan_printed hash run_file contract_file run contract r c =
    ap (λ (j : Judged Run). (with_run plan_text hash j (contract_file ∷ [])).text) r
    ∙ ap (λ (j : JudgedAll). (with_contracts plan_text hash run j).text) (one_contract contract_file contract c)

pub plans : PlansAreRead
plans hash bytes run_file contract_file run contract r c =
    let all = one_contract contract_file contract c in
    ap plan_of (plan_printed hash run_file contract_file run contract r c)
    ∙ plan_back (setup_of hash run (contract ∷ [])) run.events (run_known run_file run r)
    (λ opens. valid_runs_are hash bytes run_file (contract_file ∷ []) run (contract ∷ []) r all (omega arith) opens)

pub same_plans : SamePlansShowTheSame
same_plans hash bytes a b x y run other contract last r s c d same =
    some_is (shown_plan (setup_of hash run (contract ∷ [])) run.events) (shown_plan (setup_of hash other (last ∷ [])) other.events)
    (sym (plans hash bytes a x run contract r s) ∙ (ap plan_of same ∙ plans hash bytes b y other last c d))
