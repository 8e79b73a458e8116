-- Test vectors of what the worked pages don't have: rare conditions, words of each kind of event, rows that are shared or left out.
use Rattle.std.proofs.Common.{◌≡◌, ℕ, List, [], ◌∷◌, ◌++◌, refl, Some, None}
use Rattle.std.specs.Prelude.{codes, true, false, map}
use Rattle.std.specs.Fmt.{digits}
use Rattle.spec_terms.specs.declared.path.PathStep.TheVariants.{Branch as To, Part as Into}
use Rattle.spec_bitcoin.specs.declared.label.Label.TheVariants as labels
use Rattle.spec_bitcoin.specs.declared.verdict.Refusal.TheVariants as refusal
use Rattle.spec_bitcoin.specs.Keys.{label_text}
use Rattle.spec_calculus.specs.declared.step.Owner.TheVariants.{Party, Outside}
use Rattle.spec_calculus.specs.declared.step.Step.TheVariants as steps
use Rattle.spec_calculus.specs.Configuration.{Configuration}
use Rattle.spec_run.specs.declared.event.Event.{Event}
use Rattle.spec_run.specs.declared.event.Event.TheVariants as events
use Rattle.spec_run.specs.declared.outcome.Outcome.{Outcome}
use Rattle.spec_run.specs.declared.outcome.Outcome.TheVariants.{Done, Refused}
use Rattle.spec_run.specs.declared.outcome.Reason.TheVariants as reason
use Rattle.spec_run.specs.Pending.{Collided}
use Rattle.spec_run.specs.Event.{opening_world}
use Rattle.spec_run.specs.Translation.{Turn, opening_configuration}
use Rattle.spec_tool.specs.declared.which.Which.TheVariants.{At}
use Rattle.spec_page.specs.declared.status.Status.TheVariants.{Open, Gone}
use Rattle.spec_page.specs.Moments.{Place, move, first_moment}
use Rattle.spec_page.specs.Statuses.{parted, is_passed, bound_status, decided}
use Rattle.spec_page.specs.Balances.{money_of}
use Rattle.spec_page.specs.ReasonWords.{refused_text}
use Rattle.spec_page.specs.EventWords.{event_words, actor}
use Rattle.spec_page.specs.Folds.{Fold, folded}
use Rattle.spec_page.specs.Stops.{thinned, fold_words, fold_lines, more_text, halt_text, held_in}
use Rattle.spec_page.specs.Outlooks.{possible_text, awaited_text}
use Rattle.spec_page.proofs.Escrow.{setup, buyer, seller, mediator}

-- ---- looks

other_branch : parted (To 0 ∷ Into 1 ∷ To 0 ∷ []) (To 0 ∷ Into 1 ∷ To 2 ∷ []) ≡ true
other_branch = refl

other_part : parted (To 0 ∷ Into 0 ∷ To 0 ∷ []) (To 0 ∷ Into 1 ∷ To 2 ∷ []) ≡ false
other_part = refl

-- the same branch of another contract leaves no way less
other_contract : is_passed (move 0 (At (To 0 ∷ []))) (move 1 (At (To 1 ∷ [])) ∷ []) ≡ false
other_contract = refl

put_spent : bound_status false true false ≡ Gone
put_spent = refl

not_bound : bound_status false false false ≡ Open
not_bound = refl

false_test : decided true false ≡ Gone
false_test = refl

hidden_test : decided false true ≡ Open
hidden_test = refl

-- ---- money

-- 30 of the buyer, 20 of somebody outside, 7 of the seller, who has no column; 3 went to the miner
abbrev spread : Configuration
spread = record (opening_configuration setup) {
  deposits =
      record { number = 0; owner = Party buyer; value = 30 }
      ∷ record { number = 1; owner = Outside; value = 20 }
      ∷ record { number = 2; owner = Party seller; value = 7 } ∷ [];
  active = record { number = 3; contract = 0; position = []; balance = 40 } ∷ [];
}

spread_money : money_of (mediator ∷ buyer ∷ []) 100 spread
    ≡ record { parties = 0 ∷ 30 ∷ []; contracts = 40; elsewhere = 27; fees = 3 }
spread_money = refl

-- ---- words

abbrev places : List Place
places = record { output = 4; contract = 1; position = To 2 ∷ Into 0 ∷ [] } ∷ []

reveal_words : event_words false [] [] (events.Reveal 0 buyer (codes "a")) ≡ codes "Buyer shows a"
reveal_words = refl

-- a posted secret is its owner's
post_words : event_words false [] (steps.Delay 1 ∷ steps.Reveal 0 buyer (codes "a") ∷ []) (events.Post (1 ∷ 2 ∷ [])) ≡ codes "post: Buyer shows a"
post_words = refl

post_actor : actor (steps.Reveal 0 buyer (codes "a") ∷ []) (events.Post []) ≡ Some buyer
post_actor = refl

other_post : event_words false [] [] (events.Post (1 ∷ 2 ∷ [])) ≡ codes "post 2 bytes"
unfolding digits
other_post = refl

sign_words : event_words false [] [] (events.Sign buyer (labels.Branch 0 (To 1 ∷ []) buyer) []) ≡ codes "Buyer signs B:0:r.1:Buyer"
unfolding digits label_text
sign_words = refl

give_words : event_words false [] [] (events.Give buyer (3 ∷ []) ((seller, 1000) ∷ (mediator, 2) ∷ [])) ≡ codes "Buyer gives Seller 1,000, Mediator 2"
unfolding digits
give_words = refl

raw_words : event_words true places (steps.Split 4 1 ∷ []) (events.Append (1 ∷ [])) ≡ codes "a transaction: fire 1:r.2/0.1"
unfolding digits
raw_words = refl

other_raw : event_words true places [] (events.Append (1 ∷ 2 ∷ 3 ∷ [])) ≡ codes "a transaction of 3 bytes"
unfolding digits
other_raw = refl

-- an output that stands for no position
unknown_output : event_words true places [] (events.Fire 7 1) ≡ codes "fire #7 1"
unfolding digits
unknown_output = refl

second_contract : event_words true places [] (events.FireInit 1) ≡ codes "fire 1:init"
unfolding digits
second_contract = refl

second_commit : event_words true places [] (events.Commit 1 buyer []) ≡ codes "Buyer commits 1"
unfolding digits
second_commit = refl

one_block : event_words false [] [] (events.Mine 1) ≡ codes "1 block"
unfolding digits
one_block = refl

early : refused_text (reason.Ledger refusal.NotFinal) ≡ codes "refused, NotFinal: too early"
early = refl

unendorsed : refused_text (reason.NotEndorsed (To 0 ∷ []) buyer) ≡ codes "refused, NotEndorsed r.0 Buyer: an endorsement is missing"
unfolding digits
unendorsed = refl

collided_words : halt_text (Collided [] (1 ∷ [])) ≡ codes "two strings have one digest"
collided_words = refl

-- ---- rows that are shared

abbrev turn : Event → Outcome → Turn
turn event outcome = record {
  event = event;
  outcome = outcome;
  tx = None;
  steps = [];
  configuration = opening_configuration setup;
  world = opening_world setup;
}

abbrev early_fire : ℕ → Turn
early_fire i = turn (events.Fire 3 i) (Refused (reason.Ledger refusal.NotFinal))

abbrev ranges : List Fold → List (ℕ × ℕ)
ranges fs = map {B = ℕ × ℕ} (λ f. (f.first, f.last)) fs

-- equal lines share a row, and others don't
equal_lines : ranges (folded (first_moment setup)
    (turn (events.Mine 1) Done ∷ turn (events.Mine 1) Done ∷ turn (events.Mine 2) Done ∷ early_fire 0 ∷ early_fire 0 ∷ early_fire 1 ∷ []))
    ≡ (1, 2) ∷ (3, 3) ∷ (4, 5) ∷ (6, 6) ∷ []
unfolding digits label_text
equal_lines = refl

-- a refusal parts a beginning, and so does an event of another contract
parted_beginning : ranges (folded (first_moment setup)
    (turn (events.Commit 0 buyer []) Done ∷ turn (events.Commit 0 seller []) Done ∷ turn (events.Endorse 0 buyer) (Refused reason.NotAllCommitted)
    ∷ turn (events.Commit 0 mediator []) Done ∷ turn (events.Endorse 0 buyer) Done ∷ turn (events.Commit 1 buyer []) Done ∷ []))
    ≡ (1, 2) ∷ (3, 3) ∷ (4, 5) ∷ (6, 6) ∷ []
unfolding digits label_text
parted_beginning = refl

shared_words : map (fold_words false) (folded (first_moment setup)
    (turn (events.Commit 0 buyer []) Done ∷ turn (events.Commit 0 seller []) Done ∷ turn (events.Endorse 0 buyer) Done ∷ []))
    ≡ codes "commit, endorse" ∷ []
unfolding digits label_text
shared_words = refl

shared_lines : map fold_lines (folded (first_moment setup)
    (turn (events.Commit 0 buyer []) Done ∷ turn (events.Endorse 0 buyer) Done ∷ turn (events.Mine 1) Done ∷ turn (events.Mine 1) Done ∷ []))
    ≡ codes "commit 0 Buyer\ndone\nendorse 0 Buyer\ndone" ∷ codes "mine 1\ndone" ∷ []
unfolding digits label_text
shared_lines = refl

-- ---- rows that are left out

abbrev some_folds : List Fold
some_folds =
    folded (first_moment setup)
    (early_fire 0 ∷ turn (events.Mine 1) Done ∷ early_fire 1 ∷ early_fire 2 ∷ turn (events.Mine 2) Done ∷ turn (events.Mine 3) Done ∷ [])

-- the first refused one and the first two others
kept_rows : ranges (thinned 1 2 some_folds) ≡ (1, 1) ∷ (2, 2) ∷ (5, 5) ∷ []
unfolding digits label_text
kept_rows = refl

held_rows : held_in (thinned 1 2 some_folds) ≡ 3
unfolding digits label_text
held_rows = refl

one_more : more_text 1 ≡ codes "and 1 event more"
unfolding digits
one_more = refl

many_more : more_text 1200 ≡ codes "and 1,200 events more"
unfolding digits
many_more = refl

-- ---- what can be done

nothing_left : possible_text [] ++ awaited_text [] ≡ codes "nothing"
nothing_left = refl

thirteen : possible_text (map {A = ℕ} (λ n. codes "x") (0 ∷ 1 ∷ 2 ∷ 3 ∷ 4 ∷ 5 ∷ 6 ∷ 7 ∷ 8 ∷ 9 ∷ 10 ∷ 11 ∷ 12 ∷ []))
    ≡ codes "x, x, x, x, x, x, x, x, x, x, x, x, and 1 more"
unfolding digits
thirteen = refl
