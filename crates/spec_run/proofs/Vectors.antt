-- Values of the definitions, worked out on small runs.
use Rattle.std.proofs.Common.{◌≡◌, ℕ, zero, suc, ◌+◌, ◌*◌, ◌/◌, ◌%◌, List, [], ◌∷◌, ◌++◌, map, fold, replicate, Option, Some, None, refl, codes}
use Rattle.std.specs.Fmt.{digits}
use Rattle.spec_terms.specs.Term.{no_branch, branch, after, put_reveal, withdraw, always}
use Rattle.spec_terms.specs.Advert.{Advert}
use Rattle.spec_terms.specs.declared.pre.Pre.TheVariants.{Persistent, Secret}
use Rattle.spec_bitcoin.specs.declared.label.Label.TheVariants as labels
use Rattle.spec_bitcoin.specs.declared.verdict.Refusal.TheVariants.{NotFinal}
use Rattle.spec_bitcoin.specs.Spelling.{compact, stripped}
use Rattle.spec_bitcoin.specs.Digests.{places_list, sequences_list, outputs_list, preimage}
use Rattle.spec_bitcoin.specs.Keys.{label_text}
use Rattle.spec_bitcoin.specs.Numbers.{number_of_item, signed_bytes, item_of_number}
use Rattle.spec_compiler.specs.Keyed.Instance.{position_script}
use Rattle.spec_bitcoin.specs.Scripts.{ops_of}
use Rattle.spec_bitcoin.specs.Meaning.{script_meaning}
use Rattle.spec_calculus.specs.declared.step.Owner.TheVariants.{Party}
use Rattle.spec_calculus.specs.declared.step.Step.TheVariants as steps
use Rattle.spec_run.specs.declared.header.HeldSecret.{HeldSecret}
use Rattle.spec_run.specs.declared.event.Event.{Event}
use Rattle.spec_run.specs.declared.event.Event.TheVariants as events
use Rattle.spec_run.specs.declared.outcome.Outcome.{Outcome}
use Rattle.spec_run.specs.declared.outcome.Outcome.TheVariants.{Done, Accepted, Refused}
use Rattle.spec_run.specs.declared.outcome.Reason.TheVariants as reason
use Rattle.spec_run.specs.declared.outcome.Record.{Record}
use Rattle.spec_run.specs.Setup.{Setup}
use Rattle.spec_run.specs.Pending.{Guessed}
use Rattle.spec_run.specs.Event.{opening_collision}
use Rattle.spec_run.specs.Secrets.{length_in_run}
use Rattle.spec_run.specs.Translation.{trace, translated, first_halt, last_configuration}
use Rattle.spec_run.specs.Offers.{offers}
use Rattle.spec_terms.specs.declared.path.PathStep.TheVariants.{Branch as To}

-- ---- small runs

-- the lowest bytes of a number
abbrev low_bytes : ℕ → ℕ → List ℕ
low_bytes zero n = []
low_bytes (suc k) n = n % 256 ∷ low_bytes k (n / 256)

-- a hash of 32 bytes for these values
abbrev small_hash : List ℕ → List ℕ
small_hash m = low_bytes 8 (fold (λ a b. (a * 263 + b + 1) % 2305843009213693951) 7 m) ++ replicate 24 0

abbrev setup : List (List ℕ) → List (List ℕ) → List HeldSecret → List (List ℕ × ℕ) → List Advert → Setup
setup parties honest secrets deposits contracts =
    record { hash = small_hash; header = record { parties = parties; honest = honest; secrets = secrets; deposits = deposits }; contracts = contracts }

abbrev outcomes : Setup → List Event → List Outcome
outcomes s es = map (λ (r : Record). r.outcome) (trace s es)

abbrev a : List ℕ
a = codes "A"

abbrev b : List ℕ
b = codes "B"

abbrev only_a : List HeldSecret → List (List ℕ × ℕ) → Setup
only_a secrets deposits = setup (a ∷ []) (a ∷ []) secrets deposits []

-- ---- moves

-- nothing happens
no_events : trace (only_a [] ((a, 100) ∷ [])) [] ≡ []
no_events = refl

-- a rest is destroyed
abbrev rest : List Event
rest = events.Give a (0 ∷ []) ((a, 60) ∷ (a, 30) ∷ []) ∷ []

rest_is_destroyed : outcomes (only_a [] ((a, 100) ∷ [])) rest ≡ Accepted (0 ∷ []) ((1, 60) ∷ (2, 30) ∷ []) 0 ∷ []
unfolding label_text stripped compact places_list sequences_list outputs_list preimage script_meaning ops_of
rest_is_destroyed = refl

rest_in_steps : translated (only_a [] ((a, 100) ∷ [])) rest
    ≡ (steps.AuthMove a (record { inputs = 0 ∷ []; outputs = (Party a, 60) ∷ (Party a, 30) ∷ [] })
    ∷ steps.Move (record { inputs = 0 ∷ []; outputs = (Party a, 60) ∷ (Party a, 30) ∷ [] }) ∷ []) ∷ []
unfolding label_text stripped compact places_list sequences_list outputs_list preimage script_meaning ops_of
rest_in_steps = refl

-- ---- halts

abbrev fox : HeldSecret
fox = record { party = a; name = codes "a"; bytes = codes "The quick brown fox jumps over the lazy dog" }

-- somebody posts the bytes of a secret
guessed : first_halt (only_a (fox ∷ []) []) (events.Post (codes "The quick brown fox jumps over the lazy dog") ∷ []) ≡ Some (events.Post (codes "The quick brown fox jumps over the lazy dog"), Guessed a (codes "a"))
unfolding label_text stripped compact places_list sequences_list outputs_list preimage
guessed = refl

-- the sum of the bytes as a digest
abbrev sum_hash : List ℕ → List ℕ
sum_hash m = fold (λ x y. x + y) 0 m % 256 ∷ replicate 31 0

-- two labels with the same bytes in another order
collided : opening_collision (record { hash = sum_hash; header = record { parties = codes "AB" ∷ codes "BA" ∷ []; honest = []; secrets = []; deposits = [] }; contracts = [] }) ≡ Some (codes "D:AB", codes "D:BA")
unfolding label_text stripped compact
collided = refl

-- with another hash nothing happens
apart : opening_collision (setup (codes "AB" ∷ codes "BA" ∷ []) [] [] [] []) ≡ None
unfolding label_text stripped compact
apart = refl

-- ---- lengths of secrets

abbrev held_bytes : ℕ → Setup
held_bytes n = only_a (record { party = a; name = codes "a"; bytes = replicate n 5 } ∷ []) []

shortest : length_in_run (held_bytes 16) [] a (codes "a") [] ≡ Some 0
shortest = refl

longest : length_in_run (held_bytes 520) [] a (codes "a") [] ≡ Some 504
longest = refl

-- another's secret has the length of the first posted string that fits
abbrev posted_by_b : List (List ℕ) → Option ℕ
posted_by_b strings = length_in_run (only_a [] []) strings b (codes "b") (small_hash (replicate 20 7))

of_a_string : posted_by_b (replicate 20 8 ∷ replicate 20 7 ∷ []) ≡ Some 4
of_a_string = refl

of_none : posted_by_b (replicate 20 8 ∷ []) ≡ None
of_none = refl

-- one of 3 bytes fits nothing
too_short : length_in_run (only_a [] []) (codes "abc" ∷ []) b (codes "b") (small_hash (codes "abc")) ≡ None
too_short = refl

-- ---- a timed commitment

-- A reveals a and takes all, or B does from height 1,000 on
abbrev commitment : Advert
commitment = record {
  pre = Persistent a 100000000 (codes "x") ∷ Persistent b 0 (codes "y") ∷ Secret a (codes "a") ∷ [];
  fee = 0;
  root = branch (put_reveal [] (codes "a" ∷ []) always (branch (withdraw a) no_branch)) (branch (after 1000 (withdraw b)) no_branch);
}

abbrev timed : Setup
timed = setup (a ∷ b ∷ []) (a ∷ []) (record { party = a; name = codes "a"; bytes = 0 ∷ 17 ∷ 34 ∷ 51 ∷ 68 ∷ 85 ∷ 102 ∷ 119 ∷ 136 ∷ 153 ∷ 170 ∷ 187 ∷ 204 ∷ 221 ∷ 238 ∷ 255 ∷ [] } ∷ []) ((a, 100000000) ∷ (b, 0) ∷ []) (commitment ∷ [])

abbrev bind : ℕ → ℕ → List (List ℕ × ℕ)
bind m n = (codes "x", m) ∷ (codes "y", n) ∷ []

-- refusals in their order
refusals : outcomes timed (
    events.FireInit 0
    ∷ events.Commit 0 a []
    ∷ events.Advertise 1 ((codes "x", 0) ∷ [])
    ∷ events.Advertise 0 ((codes "x", 0) ∷ [])
    ∷ events.Advertise 0 (bind 0 0)
    ∷ events.Advertise 0 (bind 0 9)
    ∷ events.Advertise 0 (bind 1 0)
    ∷ events.Advertise 0 ((codes "y", 1) ∷ (codes "x", 0) ∷ [])
    ∷ events.Advertise 0 (bind 0 1)
    ∷ events.Endorse 0 a
    ∷ events.Reveal 0 b (codes "a")
    ∷ events.Reveal 0 a (codes "a")
    ∷ events.Commit 0 a []
    ∷ events.Commit 0 a []
    ∷ events.Reveal 0 a (codes "a")
    ∷ events.Authorise a 0 0
    ∷ events.Sign a (labels.Deposit a) (replicate 32 0)
    ∷ events.Sign b (labels.Deposit a) (replicate 32 0)
    ∷ events.Mine 499999999
    ∷ events.Mine 1
    ∷ [])
    ≡ Refused reason.NotCompiled
    ∷ Refused reason.NotAdvertised
    ∷ Refused reason.NoContract
    ∷ Refused reason.WrongNames
    ∷ Refused (reason.DepositRepeated (codes "y"))
    ∷ Refused (reason.NotLive (codes "y"))
    ∷ Refused (reason.WrongDeposit (codes "x"))
    ∷ Done
    ∷ Refused reason.AdvertFull
    ∷ Refused reason.NotAllCommitted
    ∷ Refused reason.NotHonest
    ∷ Refused reason.NotCommitted
    ∷ Done
    ∷ Refused reason.AlreadyCommitted
    ∷ Refused reason.NotBegun
    ∷ Refused reason.NotActive
    ∷ Refused reason.Honest
    ∷ Refused reason.NotOwner
    ∷ Done
    ∷ Refused reason.TimeLimit
    ∷ []
unfolding label_text stripped compact places_list sequences_list outputs_list preimage
refusals = refl

-- the whole of it, from its advert to A's withdrawal
abbrev played : List Event
played =
    events.Advertise 0 (bind 0 1) ∷ events.Commit 0 a [] ∷ events.Commit 0 b [] ∷ events.Endorse 0 a ∷ events.Endorse 0 b
    ∷ events.Init 0 a ∷ events.Init 0 b ∷ events.FireInit 0 ∷ events.Reveal 0 a (codes "a") ∷ events.Fire 2 0 ∷ events.Fire 3 0 ∷ []

play : outcomes timed played
    ≡ Done ∷ Done ∷ Done ∷ Done ∷ Done ∷ Done ∷ Done
    ∷ Accepted (0 ∷ 1 ∷ []) ((2, 100000000) ∷ []) 0
    ∷ Done
    ∷ Accepted (2 ∷ []) ((3, 100000000) ∷ []) 0
    ∷ Accepted (3 ∷ []) ((4, 100000000) ∷ []) 0
    ∷ []
unfolding label_text stripped compact places_list sequences_list outputs_list preimage script_meaning ops_of number_of_item signed_bytes
    item_of_number position_script digits
play = refl

-- and its steps
play_in_steps : translated timed played
    ≡ (steps.Advertise 0 (bind 0 1) ∷ [])
    ∷ (steps.Commit 0 a ((codes "a", Some 0) ∷ []) ∷ [])
    ∷ (steps.Commit 0 b [] ∷ [])
    ∷ []
    ∷ []
    ∷ (steps.AuthInit 0 a (codes "x") ∷ [])
    ∷ (steps.AuthInit 0 b (codes "y") ∷ [])
    ∷ (steps.Init 0 ∷ [])
    ∷ (steps.Reveal 0 a (codes "a") ∷ [])
    ∷ (steps.PutReveal 2 0 ∷ [])
    ∷ (steps.Withdraw 3 0 ∷ [])
    ∷ []
unfolding label_text stripped compact places_list sequences_list outputs_list preimage script_meaning ops_of number_of_item signed_bytes
    item_of_number position_script digits
play_in_steps = refl

-- while A is silent, B's branch is offered from height 1,000 on
abbrev waits : List Event
waits =
    events.Advertise 0 (bind 0 1) ∷ events.Commit 0 a [] ∷ events.Commit 0 b [] ∷ events.Endorse 0 a ∷ events.Endorse 0 b
    ∷ events.Init 0 a ∷ events.Init 0 b ∷ events.FireInit 0 ∷ events.Mine 999 ∷ events.Fire 2 1 ∷ events.Mine 1 ∷ []

too_early : outcomes timed waits
    ≡ Done ∷ Done ∷ Done ∷ Done ∷ Done ∷ Done ∷ Done ∷ Accepted (0 ∷ 1 ∷ []) ((2, 100000000) ∷ []) 0 ∷ Done ∷ Refused (reason.Ledger NotFinal) ∷ Done ∷ []
unfolding label_text stripped compact places_list sequences_list outputs_list preimage script_meaning ops_of number_of_item signed_bytes
    item_of_number position_script digits
too_early = refl

offered : offers (last_configuration timed waits) ≡ record { step = steps.Withdraw 2 1; event = events.Fire 2 1 } ∷ []
unfolding label_text stripped compact places_list sequences_list outputs_list preimage script_meaning ops_of number_of_item signed_bytes
    item_of_number position_script digits
offered = refl

-- without B's endorsement A doesn't sign
missing : outcomes timed (events.Advertise 0 (bind 0 1) ∷ events.Commit 0 a [] ∷ events.Commit 0 b [] ∷ events.Endorse 0 a ∷ events.Init 0 a ∷ [])
    ≡ Done ∷ Done ∷ Done ∷ Done ∷ Refused (reason.NotEndorsed (To 0 ∷ []) b) ∷ []
unfolding label_text stripped compact places_list sequences_list outputs_list preimage script_meaning ops_of number_of_item signed_bytes
    item_of_number position_script digits
missing = refl
