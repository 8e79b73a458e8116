-- A run that was played, from its opening on.
use Rattle.std.proofs.Common.{◌≡◌, ℕ, suc, ◌+◌, drop, get_or, ◌<◌, ◌^◌, List, [], ◌∷◌, ◌++◌, length, map, refl, sym, ap, ◌∙◌, subst, arith, append_assoc, append-nil}
use Rattle.spec_calculus.specs.declared.step.Step.{Step}
use Rattle.spec_calculus.specs.Configuration.{Configuration}
use Rattle.spec_calculus.specs.Steps.{after_steps}
use Rattle.spec_run.specs.declared.outcome.Record.{Record}
use Rattle.spec_run.specs.Setup.{Setup}
use Rattle.spec_run.specs.World.{World}
use Rattle.spec_run.specs.Event.{Passed, opening_world, record_of}
use Rattle.spec_run.specs.Translation.{Turn, turn_of, turns_from, opening_configuration, last_configuration, last_or, translated, record_in, world_after}
use Rattle.spec_run.specs.Steps.{outcome_steps}
use Rattle.spec_run.specs.Statements.{HoldsFrom}
use Rattle.theory_run.specs.KeptRuns.{KeptRun}
use Rattle.theory_run.proofs.Simulated.{opening_run}
use Rattle.std.proofs.lemmas.List.{drop_more}
use Rattle.spec_terms.specs.Advert.{Advert}
use Rattle.bm_match.specs.Matches.{compiled_from}
use Rattle.bm_world_board.specs.declared.board.Board.{Board}
use Rattle.bm_translate.specs.declared.running.Running.{Running}
use Rattle.bm_translate.specs.Shown.{posts_of}
use Rattle.bm_translate.specs.Moments.{IsEnd, IsMoment, IsTurn, IsLater}
use Rattle.bm_translate.proofs.Turns.{secrets_after}
use Rattle.bm_translate_course.specs.Passing.{after_all}
use Rattle.bm_translate_course.specs.Courses.{events_of, passed_in, end_of, IsPlayed, here, IsHere, IsNext, started, passed_by, IsUnderWay}
use Rattle.bm_translate_course.proofs.Taken.{config_after, inits_after_all, asked_after_all}
use Rattle.bm_translate_course.proofs.Later.{later_end}
use Rattle.bm_translate_course.proofs.Here.{all_here}

-- ---- lists

nothing_is : {X : Type 0} (x : X) (xs : List X) → [] ≡ x ∷ xs → ⊥
nothing_is x xs e = cc

some_is : {X : Type 0} (x : X) (xs : List X) → x ∷ xs ≡ [] → ⊥
some_is x xs e = cc

same_first : {X : Type 0} (x y : X) (xs ys : List X) → x ∷ xs ≡ y ∷ ys → x ≡ y
same_first x y xs ys e = cc

same_rest : {X : Type 0} (x y : X) (xs ys : List X) → x ∷ xs ≡ y ∷ ys → xs ≡ ys
same_rest x y xs ys e = cc

count_compiled : (s : Setup) (w : World) (k : ℕ) (cs : List Advert) → length (compiled_from s w k cs) ≡ length cs
count_compiled s w k [] = refl
count_compiled s w k (c ∷ cs) = ap suc (count_compiled s w (k + 1) cs)

-- one more is left of a list
pub left_of : {X : Type 0} (xs : List X) (i : ℕ) (x : X) → i < length xs → x ≡ get_or xs i x → drop i xs ≡ x ∷ drop (i + 1) xs
left_of xs i x lt at = drop_more xs i x lt ∙ ap (λ z. z ∷ drop (i + 1) xs) (sym at)

-- the records of what was passed
abbrev records_of : List Passed → List Record
records_of ps = map (λ p. record_of p.event p.pending) ps

module _ (s : Setup) (b : Board) (messages : List (List ℕ)) (trace : List Record) (is : IsPlayed s b messages trace) where
  abbrev f : World
  f = end_of s trace

  ending : IsEnd s b messages (end_of s trace)
  ending = record {
    header = is.header;
    contracts = is.contracts;
    accounts = is.accounts;
    compiled = is.compiled;
    posted = is.posted;
    promises = is.promises;
    advertised = is.advertised;
    heard = is.heard;
  }

  -- before any event
  pub starts : IsUnderWay s b messages (end_of s trace) (started s b messages) trace [] (translated s (events_of trace))
      (last_configuration s (events_of trace))
  starts =
      let z = (end_of s trace).posted in
      let es = events_of trace in
      let all = all_here s es is.run in
      record {
        world = opening_world s;
        passed = passed_in s trace;
        before = [];
        records = is.records;
        moment = record {
          end = ending;
          kept = opening_run s es is.run z;
          later = later_end s z (passed_in s trace) [] (opening_configuration s) (opening_world s) all;
          inits = refl;
          asked = refl;
          secrets = refl;
        };
        holds = all;
        ends = refl;
        steps = refl;
        last_is = refl;
      }

  pub few_outputs : length b.coins.outputs < 2 ^ 32 → length (end_of s trace).outputs < 2 ^ 32
  few_outputs h = subst (λ os. length os < 2 ^ 32) is.outputs h

  -- there are as many compiled contracts as contracts
  pub few_compiled : length b.compiled < 2 ^ 32
  few_compiled =
      let e = ap length is.compiled ∙ count_compiled s (end_of s trace) 0 s.contracts in
      let h = is.run.setup.few_contracts in
      omega (arith, e, h)

-- ---- the next event

module _ (s : Setup) (b : Board) (messages : List (List ℕ)) (f : World) (room : length f.outputs < 2 ^ 32) (r : Running) (rest : List Record)
    (so_far all : List (List Step)) (last : Configuration) where
  -- at an event that was passed in this world
  module _ (w : World) (p : Passed) (ps : List Passed) (before : List Record) (moment : IsMoment s b messages f w r)
      (holds : HoldsFrom (here s f.posted) before r.config w (turns_from s f.posted r.config w (p ∷ ps)))
      (ends : world_after w (p ∷ ps) ≡ f) where
    abbrev t : Turn
    t = turn_of s f.posted r.config w p

    now : IsHere s f.posted r.config w (turn_of s f.posted r.config w p)
    now = holds.0

    later : IsLater s p.world f
    later =
        subst (IsLater s p.world) ends
        (later_end s f.posted ps (before ++ record_in (turn_of s f.posted r.config w p) ∷ [])
        (turn_of s f.posted r.config w p).configuration p.world holds.1)

    turn : IsTurn s b messages f w p.world r (record_of p.event p.pending)
    turn = record { before = moment; passed = now.passed; left = now.left; later = later }

    next : IsNext s b messages r (record_of p.event p.pending)
    next = record {
      end = f;
      world = w;
      next = p.world;
      turn = turn;
      legal = now.legal;
      room =
          let e = now.after.tracks.money.next in
          let h = later.outputs in
          let k = room in
          omega (arith, e, h, k);
    }

    -- what is known after it
    module _ (made : List Step) (made_is : made ≡ (turn_of s f.posted r.config w p).steps) where
      abbrev r' : Running
      r' = passed_by r made (posts_of b.header.secrets (record_of p.event p.pending))

      config_is : (after_all r made).config ≡ (turn_of s f.posted r.config w p).configuration
      config_is = config_after made r ∙ ap (after_steps r.config) made_is

      moment_after : IsMoment s b messages f p.world (passed_by r made (posts_of b.header.secrets (record_of p.event p.pending)))
      moment_after = record {
        end = moment.end;
        kept = subst (λ g. KeptRun s f.posted g p.world) (sym config_is) now.after;
        later = later;
        inits = inits_after_all made r moment.inits ∙ ap (λ (g : Configuration). g.init_authorised) (sym (config_after made r));
        asked = asked_after_all made r moment.asked ∙ ap (λ (g : Configuration). g.branch_authorised) (sym (config_after made r));
        secrets = secrets_after s b messages f w p.world r (record_of p.event p.pending) turn;
      }

      under_way : map (λ q. record_of q.event q.pending) ps ≡ rest
          → so_far ++ map (λ u. u.steps) (turns_from s f.posted r.config w (p ∷ ps)) ≡ all
          → last_or r.config (map (λ u. u.configuration) (turns_from s f.posted r.config w (p ∷ ps))) ≡ last
          → IsUnderWay s b messages f (passed_by r made (posts_of b.header.secrets (record_of p.event p.pending))) rest (so_far ++ made ∷ []) all last
      under_way records steps last_is = record {
        world = p.world;
        passed = ps;
        before = before ++ record_in (turn_of s f.posted r.config w p) ∷ [];
        records = records;
        moment = moment_after;
        holds = subst (λ g. HoldsFrom (here s f.posted) (before ++ record_in (turn_of s f.posted r.config w p) ∷ []) g p.world
            (turns_from s f.posted g p.world ps)) (sym config_is) holds.1;
        ends = ends;
        steps =
            append_assoc so_far (made ∷ []) (map (λ u. u.steps) (turns_from s f.posted (after_all r made).config p.world ps))
            ∙ (λ i. so_far ++ made_is i ∷ map (λ u. u.steps) (turns_from s f.posted (config_is i) p.world ps)) ∙ steps;
        last_is = ap (λ g. last_or g (map (λ u. u.configuration) (turns_from s f.posted g p.world ps))) config_is ∙ last_is;
      }

  -- at an event of this record
  module _ (x : Record) (at : IsUnderWay s b messages f r (x ∷ rest) so_far all last) where
    pub is_next : IsNext s b messages r x
    is_next = by_passed at.passed at.records at.holds at.ends
      where
        by_passed : (ps : List Passed) → map (λ q. record_of q.event q.pending) ps ≡ x ∷ rest
            → HoldsFrom (here s f.posted) at.before r.config at.world (turns_from s f.posted r.config at.world ps)
            → world_after at.world ps ≡ f → IsNext s b messages r x
        by_passed [] e h k = absurd (nothing_is x rest e)
        by_passed (p ∷ ps) e h k =
            let z = same_first (record_of p.event p.pending) x (records_of ps) rest e in
            subst (IsNext s b messages r) z (next at.world p ps at.before at.moment h k)

    -- and after it
    pub goes_on : (made : List Step) (new : Running)
        → ((end w next : World) → IsTurn s b messages end w next r x
        → (made ≡ outcome_steps s end.posted r.config w next x.event x.tx x.outcome) × (new ≡ passed_by r made (posts_of b.header.secrets x)))
        → IsUnderWay s b messages f new rest (so_far ++ made ∷ []) all last
    goes_on made new says = by_passed at.passed at.records at.holds at.ends at.steps at.last_is
      where
        by_record : (p : Passed) (ps : List Passed) → record_of p.event p.pending ≡ x → map (λ q. record_of q.event q.pending) ps ≡ rest
            → HoldsFrom (here s f.posted) at.before r.config at.world (turns_from s f.posted r.config at.world (p ∷ ps))
            → world_after at.world (p ∷ ps) ≡ f
            → so_far ++ map (λ u. u.steps) (turns_from s f.posted r.config at.world (p ∷ ps)) ≡ all
            → last_or r.config (map (λ u. u.configuration) (turns_from s f.posted r.config at.world (p ∷ ps))) ≡ last
            → IsUnderWay s b messages f new rest (so_far ++ made ∷ []) all last
        by_record p ps z records h k steps last_is =
            let told = (subst (λ (y : Record). (end w next : World) → IsTurn s b messages end w next r y
            → (made ≡ outcome_steps s end.posted r.config w next y.event y.tx y.outcome) × (new ≡ passed_by r made (posts_of b.header.secrets y))) (sym z) says)
            f at.world p.world (turn at.world p ps at.before at.moment h k) in
            subst (λ (q : Running). IsUnderWay s b messages f q rest (so_far ++ made ∷ []) all last) (sym told.1)
            (under_way at.world p ps at.before at.moment h k made told.0 records steps last_is)

        by_passed : (ps : List Passed) → map (λ q. record_of q.event q.pending) ps ≡ x ∷ rest
            → HoldsFrom (here s f.posted) at.before r.config at.world (turns_from s f.posted r.config at.world ps)
            → world_after at.world ps ≡ f
            → so_far ++ map (λ u. u.steps) (turns_from s f.posted r.config at.world ps) ≡ all
            → last_or r.config (map (λ u. u.configuration) (turns_from s f.posted r.config at.world ps)) ≡ last
            → IsUnderWay s b messages f new rest (so_far ++ made ∷ []) all last
        by_passed [] e h k steps last_is = absurd (nothing_is x rest e)
        by_passed (p ∷ ps) e h k steps last_is =
            let z = same_first (record_of p.event p.pending) x (records_of ps) rest e in
            let q = same_rest (record_of p.event p.pending) x (records_of ps) rest e in
            by_record p ps z q h k steps last_is

  -- ---- at the end

  pub ended : IsUnderWay s b messages f r [] so_far all last → (so_far ≡ all) × (r.config ≡ last)
  ended at = by_passed at.passed at.records at.steps at.last_is
    where
      by_passed : (ps : List Passed) → map (λ q. record_of q.event q.pending) ps ≡ []
          → so_far ++ map (λ u. u.steps) (turns_from s f.posted r.config at.world ps) ≡ all
          → last_or r.config (map (λ u. u.configuration) (turns_from s f.posted r.config at.world ps)) ≡ last → (so_far ≡ all) × (r.config ≡ last)
      by_passed [] e steps last_is = (sym (append-nil so_far) ∙ steps, last_is)
      by_passed (p ∷ ps) e steps last_is = absurd (some_is (record_of p.event p.pending) (records_of ps) e)
