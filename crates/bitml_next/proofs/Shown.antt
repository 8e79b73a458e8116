-- What is written shows what the theorems on what comes next say.
use Rattle.std.proofs.Common.{◌≡◌, ℕ, ◌+◌, List, [], ◌∷◌, length, map, Option, Some, None, Ok, Err, refl, sym, ap, subst, ◌∙◌, arith}
use Rattle.std.specs.Prelude.{if◌then◌else◌, nat_lt, Bool, true, false, Result}
use Rattle.spec_terms.specs.Advert.{Advert}
use Rattle.spec_terms.specs.Faults.{first_fault, first_limit, IsWellFormed}
use Rattle.spec_terms.specs.declared.limit.Limit.{Limit}
use Rattle.spec_terms.specs.declared.place.Place.{Place}
use Rattle.spec_calculus.specs.Configuration.{Configuration}
use Rattle.spec_run.specs.Conditions.{HashesBytes}
use Rattle.spec_run.specs.Pending.{Halt, Collided, Guessed}
use Rattle.spec_run.specs.World.{World}
use Rattle.spec_run.specs.declared.event.Event.{Event}
use Rattle.spec_run.specs.Event.{opening_collision}
use Rattle.spec_run.specs.Setup.{Setup}
use Rattle.spec_run.specs.Statements.{IsRun}
use Rattle.spec_run.specs.Translation.{last_configuration, last_world, first_halt}
use Rattle.spec_text.specs.declared.stop.TextFault.{TextFault}
use Rattle.spec_text.specs.Limits.{most_text_bytes}
use Rattle.spec_text.specs.PlayText.{Ending, whole, guessed, collided}
use Rattle.spec_text.specs.Played.{ending, ending_from}
use Rattle.spec_text.specs.ReadAdvert.{read_answer}
use Rattle.spec_text.specs.Refusals.{Judged, judged_limit, judged_fault, judged_answer, contract_of}
use Rattle.spec_tool.specs.Reads.{Read, Text, texts_read}
use Rattle.spec_tool.specs.Commands.{Printed, contracts_from, onto_judged, setup_of, ending_status, both_judged}
use Rattle.spec_tool.specs.Answers.{contracts_in, if_whole, unless_stopped}
use Rattle.spec_tool.specs.Statements.{ValidRunTheorem}
use Rattle.spec_next.specs.declared.form.Form.{Form}
use Rattle.spec_next.specs.Foreseen.{foreseen_collision, unless_collided, next_printed}
use Rattle.spec_next.specs.Forms.{next_text}
use Rattle.spec_next.specs.NextAnswer.{NextCommand, form_of, party_of, begins_judged, next_answer, next_texts, read_next}
use Rattle.theory_next.specs.Asked.{EventsAreAsked}
use Rattle.theory_next.specs.ByHand.{HandsBringTheorem}
use Rattle.theory_next.specs.Candidates.{OffersAreSaid}
use Rattle.theory_next.specs.FirstLines.{FirstLinesAreARun}
use Rattle.theory_next.specs.FirstEvents.{FirstEventsGoThrough}
use Rattle.theory_next.specs.FirstRun.{FirstRunIsARun}
use Rattle.theory_next.specs.Hands.{HandsCountTheorem}
use Rattle.theory_next.specs.Lasting.{RefusalsLast}
use Rattle.theory_next.specs.Leads.{LeadsAreEffects}
use Rattle.theory_next.specs.Listed.{NothingIsLeftOut}
use Rattle.theory_next.specs.MetAlone.{MetAloneTheorem}
use Rattle.theory_next.specs.MetShown.{MetShownTheorem}
use Rattle.theory_next.specs.Named.{WaitsAreNamed}
use Rattle.theory_next.specs.Never.{NeverIsSaid}
use Rattle.theory_next.specs.Once.{CandidatesStandOnce}
use Rattle.theory_next.specs.Others.{OthersComeTheorem}
use Rattle.theory_next.specs.Ready.{ReadyComesTheorem}
use Rattle.theory_next.specs.Together.{LinesNameAll}
use Rattle.theory_next.specs.Waits.{WaitsAreMeant}
use Rattle.theory_next.specs.Requirements.{RequirementsAreExactTheorem}
use Rattle.theory_next_text.specs.Statements.{NextIsReadBack}
use Rattle.theory_commands.specs.Refused.{FilesAreJudged}
use Rattle.theory_text.proofs.Within.Adverts.{read_is_readable}
use Rattle.theory_tool.proofs.Runs.{opens_calmly}
use Rattle.bitml_next.proofs.Files.{says_refusals}
use Rattle.bitml_next.specs.Shown.{SaysOfRun, ShowsRun, ShowsContract, ShowsTexts, Shows}

-- the theorems that are cited
pub record Theorems : Type 0 where
  pub valid : ValidRunTheorem
  pub asked : EventsAreAsked
  pub said : OffersAreSaid
  pub once : CandidatesStandOnce
  pub outstanding : RequirementsAreExactTheorem
  pub waits : WaitsAreMeant
  pub named : WaitsAreNamed
  pub never : NeverIsSaid
  pub hands : HandsCountTheorem
  pub listed : NothingIsLeftOut
  pub together : LinesNameAll
  pub read : NextIsReadBack
  pub leads : LeadsAreEffects
  pub last : RefusalsLast
  pub ready : ReadyComesTheorem
  pub by_hand : HandsBringTheorem
  pub others : OthersComeTheorem
  pub alone : MetAloneTheorem
  pub shown_alone : MetShownTheorem
  pub lines : FirstLinesAreARun
  pub run : FirstRunIsARun
  pub go : FirstEventsGoThrough
  pub files : FilesAreJudged

-- ---- a contract that is taken is well-formed

-- what is taken was read, and has neither fault nor limit
abbrev IsSound : Result Advert TextFault → Judged Advert → Type 0
IsSound read (Ok a) = (read ≡ Ok a) × (first_fault a ≡ None) × (first_limit a ≡ None)
IsSound read (Err why) = Unit {0}

by_limit : (a : Advert) (q : Option (Limit × Place)) → first_fault a ≡ None → first_limit a ≡ q → IsSound (Ok a) (judged_limit a q)
by_limit a None f l = (refl, f, l)
by_limit a (Some p) f l = tt

by_fault : (a : Advert) (o : Option (ℕ × Place)) → first_fault a ≡ o → IsSound (Ok a) (judged_fault a o)
by_fault a None f = by_limit a (first_limit a) f refl
by_fault a (Some p) f = tt

by_reading : (read : Result Advert TextFault) → IsSound read (judged_answer read)
by_reading (Err fault) = tt
by_reading (Ok a) = by_fault a (first_fault a) refl

unless_long : (long : Bool) (why : List ℕ) (read : Result Advert TextFault) (judged : Judged Advert) → IsSound read judged
    → IsSound read (if long then Err why else judged)
unless_long true why read judged h = tt
unless_long false why read judged h = h

well_formed : (text : List ℕ) (a : Advert) → contract_of text ≡ Ok a → IsWellFormed a
well_formed text a e =
    let read = read_answer text in
    let s = subst (IsSound read) e (unless_long (nat_lt most_text_bytes (length text)) _ read (judged_answer read) (by_reading read)) in
    record { readable = read_is_readable text a s.0; faultless = s.1; limited = s.2 }

-- ---- a run that isn't halted, and whose candidates don't collide

-- what a run with the status 0 shows
record Told (form : Form) (party : Option (List ℕ)) (s : Setup) (es : List Event) (text : List ℕ) : Type 0 where
  opens : opening_collision s ≡ None
  goes_on : first_halt s es ≡ None
  told : text ≡ next_text form party s es

module _ (form : Form) (party : Option (List ℕ)) (s : Setup) (es : List Event) where
  by_pair : (o : Option (List ℕ × List ℕ)) → opening_collision s ≡ None → first_halt s es ≡ None
      → (unless_collided o (next_text form party s es)).status ≡ 0 → Told form party s es (unless_collided o (next_text form party s es)).text
  by_pair None opens going e = record { opens = opens; goes_on = going; told = refl }
  by_pair (Some pair) opens going e = absurd (omega (arith, e))

  -- where a run ends whole, nothing has halted it
  going : (w : World) (g : Configuration) (o : Option (List ℕ × List ℕ)) (halt : Option (Event × Halt)) → ending_status (ending_from w g o halt) ≡ 0
      → halt ≡ None
  going w g (Some p) halt e = absurd (omega (arith, e))
  going w g None None e = refl
  going w g None (Some (x, Collided earlier later)) e = absurd (omega (arith, e))
  going w g None (Some (x, Guessed party secret)) e = absurd (omega (arith, e))

  by_ending : (e : Ending) → ending s es ≡ e → (unless_stopped (ending_status e) e (next_printed form party s es)).status ≡ 0
      → Told form party s es (unless_stopped (ending_status e) e (next_printed form party s es)).text
  unfolding next_printed
  by_ending (whole tip live g offers) h zero =
      let ends : ending_status (ending s es) ≡ 0 = ap ending_status h in
      by_pair (foreseen_collision s (last_configuration s es) (last_world s es)) (opens_calmly s es ends)
      (going (last_world s es) (last_configuration s es) (opening_collision s) (first_halt s es) ends) zero
  by_ending (guessed event party secret) h zero = absurd (omega (arith, zero))
  by_ending (collided event earlier later) h zero = absurd (omega (arith, zero))

  told_by : (if_whole (next_printed form party) s es).status ≡ 0 → Told form party s es (if_whole (next_printed form party) s es).text
  told_by = by_ending (ending s es) refl

  says : Theorems → (text : List ℕ) → IsRun s es → Told form party s es text → SaysOfRun form party s es text
  says t text run told = record {
    told = told.told;
    meant = λ e. t.asked.meant s (last_world s es) e;
    asked = λ k advert e. t.asked.asked s (last_configuration s es) (last_world s es) k advert e;
    offered = λ offer i. t.said s es run offer i;
    once = t.once s es run;
    outstanding = λ e. t.outstanding s (last_configuration s es) (last_world s es) e;
    said = λ e. t.never.events s (last_configuration s es) (last_world s es) e;
    shown = λ k advert. t.never.contracts s (last_configuration s es) (last_world s es) k advert;
    hands = t.hands s (last_configuration s es) (last_world s es);
    lasting = t.last;
    listed = λ o. t.listed party o;
    together = t.together;
    read = λ lines fine. t.read form party s es text told.told lines fine;
    leads = λ n i a b here taken. t.leads (last_configuration s es) n i a b here taken;
    waits = λ k advert at. t.waits s es run k advert at;
    named = λ k advert at. t.named s es run party k advert at;
    ready = t.ready s es run;
    by_hand = t.by_hand s es run;
    others = t.others s es run told.goes_on;
    alone = t.alone s es run told.goes_on;
    shown_alone = t.shown_alone s es run told.goes_on;
  }

-- ---- files

contracts_in_texts : (k : ℕ) (files : List (List ℕ)) → contracts_in k (map Some files) ≡ contracts_from k files
contracts_in_texts k [] = refl
contracts_in_texts k (file ∷ files) = ap (onto_judged k (contract_of file)) (contracts_in_texts (k + 1) files)

module _ (t : Theorems) (hash : List ℕ → List ℕ) (bytes : HashesBytes hash) (form : Form) (party : Option (List ℕ)) (texts : List Text) where
  shows_run : ShowsRun hash form party texts (next_texts hash form party texts)
  shows_run run_file contract_file contract_files run contracts e few valid well zero =
      let s : Setup = setup_of hash run contracts in
      let same : next_texts hash form party texts ≡ if_whole (next_printed form party) s run.events =
      ap (next_texts hash form party) e
      ∙ (λ i. both_judged (if_whole (next_printed form party)) hash (valid i) ((contracts_in_texts 0 (contract_file ∷ contract_files) ∙ well) i)) in
      let told : Told form party s run.events (if_whole (next_printed form party) s run.events).text =
      told_by form party s run.events (ap (λ (p : Printed). p.status) (sym same) ∙ zero) in
      let is_run : IsRun s run.events =
      t.valid hash bytes run_file (contract_file ∷ contract_files) run contracts valid well few told.opens in
      subst (λ (p : Printed). SaysOfRun form party s run.events p.text) (sym same)
      (says form party s run.events t (if_whole (next_printed form party) s run.events).text is_run told)

  shows_contract : ShowsContract hash texts (next_texts hash form party texts)
  shows_contract contract_file advert e taken = record {
    told = ap (λ (p : Printed). p.text) (ap (next_texts hash form party) e ∙ ap begins_judged taken);
    filled = t.lines.filled advert;
    runs = λ strings room differ opens. t.run hash advert strings bytes (well_formed contract_file advert taken) room differ opens;
    goes = λ strings room differ long opens.
        t.go hash advert strings bytes (well_formed contract_file advert taken) room differ long opens;
  }

shows_texts : Theorems → (hash : List ℕ → List ℕ) → HashesBytes hash → (form : Form) (party : Option (List ℕ)) (o : Option (List Text))
    → ShowsTexts hash form party o (read_next hash form party o)
shows_texts t hash bytes form party None = tt
shows_texts t hash bytes form party (Some texts) = (
  shows_run t hash bytes form party texts,
  shows_contract t hash bytes form party texts,
  says_refusals t.files hash form party texts,
)

pub shows : Theorems → (hash : List ℕ → List ℕ) → HashesBytes hash → (command : Option NextCommand) (reads : List Read)
    → Shows hash command reads (next_answer hash command reads)
shows t hash bytes None reads = tt
shows t hash bytes (Some command) reads = shows_texts t hash bytes (form_of command) (party_of command) (texts_read reads)
