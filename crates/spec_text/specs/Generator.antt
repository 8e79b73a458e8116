-- A contract and a run that are made from a number.
use Rattle.std.specs.Prelude.{ℕ, zero, suc, ◌+◌, ◌-◌, ◌*◌, ◌/◌, ◌%◌, ◌^◌, List, [], ◌∷◌, ◌++◌, codes}
use Rattle.std.specs.Fmt.{decimal}
use Rattle.spec_terms.specs.Term.{after, put_reveal, withdraw, Contract, no_branch, branch, equal, constant, length_of}
use Rattle.spec_terms.specs.Advert.{Advert}
use Rattle.spec_terms.specs.declared.pre.Pre.{Pre}
use Rattle.spec_terms.specs.declared.pre.Pre.TheVariants.{Persistent, Secret}
use Rattle.spec_run.specs.declared.event.Event.{Event}
use Rattle.spec_run.specs.declared.event.Event.TheVariants as events
use Rattle.spec_run.specs.declared.event.Run.{Run}
use Rattle.spec_run.specs.declared.header.Header.{Header}
use Rattle.spec_run.specs.declared.header.HeldSecret.{HeldSecret}

-- ---- draws

-- the state after a draw
abbrev pub next_state : ℕ → ℕ
next_state state = (state * 6364136223846793005 + 1442695040888963407) % 2 ^ 64

-- what a draw answers, by the state after it
abbrev pub drawn : ℕ → ℕ
drawn state = state / 2 ^ 33

-- a value with the state after it
abbrev pub Drawn : Type 0 → Type 0
Drawn A = A × ℕ

abbrev pub draw_below : ℕ → ℕ → Drawn ℕ
draw_below bound state = (drawn (next_state state) % bound, next_state state)

abbrev pub onto_drawn : {A : Type 0} → A → Drawn (List A) → Drawn (List A)
onto_drawn x later = (x ∷ later.0, later.1)

-- so many bytes
abbrev pub draw_bytes : ℕ → ℕ → Drawn (List ℕ)
draw_bytes zero state = ([], state)
draw_bytes (suc n) state = onto_drawn (drawn (next_state state) % 256) (draw_bytes n (next_state state))

-- ---- secrets

-- a secret: its length in the contract, and its bytes
abbrev pub Generated : Type 0
Generated = ℕ × List ℕ

abbrev pub made_of : ℕ → ℕ → Drawn (List ℕ) → Drawn Generated
made_of j length bytes = ((length, j ∷ bytes.0), bytes.1)

-- secret j: the byte j, and 15 bytes more than its length
abbrev pub draw_secret : ℕ → ℕ → Drawn Generated
draw_secret j state = made_of j (drawn (next_state state) % 17) (draw_bytes (15 + drawn (next_state state) % 17) (next_state state))

-- so many secrets from number j on
abbrev pub draw_secrets : ℕ → ℕ → ℕ → Drawn (List Generated)
draw_secrets zero j state = ([], state)
draw_secrets (suc n) j state = onto_drawn ((draw_secret j state).0) (draw_secrets n (j + 1) ((draw_secret j state).1))

-- ---- names

abbrev pub party_a : List ℕ
party_a = codes "A"

abbrev pub party_b : List ℕ
party_b = codes "B"

-- the name of secret j
abbrev pub secret_name : ℕ → List ℕ
secret_name j = codes "a" ++ decimal j

-- ---- the contract

-- secret j is revealed with its length and the contract goes on, or B withdraws from height 10 j on
abbrev pub stage : ℕ → ℕ → Contract → Contract
stage j length next =
    branch (put_reveal [] (secret_name j ∷ []) (equal (length_of (secret_name j)) (constant length)) next)
    (branch (after (10 * j) (withdraw party_b)) no_branch)

-- the stages from number j on; at last A withdraws
abbrev pub stages : ℕ → List Generated → Contract
stages j [] = branch (withdraw party_a) no_branch
stages j (m ∷ ms) = stage j (m.0) (stages (j + 1) ms)

-- the entries of the secrets from number j on
abbrev pub secret_entries : ℕ → List Generated → List Pre
secret_entries j [] = []
secret_entries j (m ∷ ms) = Secret party_a (secret_name j) ∷ secret_entries (j + 1) ms

abbrev pub generated_advert : List Generated → Advert
generated_advert ms = record {
  pre = Persistent party_a 1000000 (codes "x") ∷ Persistent party_b 0 (codes "y") ∷ secret_entries 1 ms;
  fee = 0;
  root = stages 1 ms;
}

-- ---- the header

abbrev pub held : ℕ → Generated → HeldSecret
held j m = record { party = party_a; name = secret_name j; bytes = m.1 }

abbrev pub held_from : ℕ → List Generated → List HeldSecret
held_from j [] = []
held_from j (m ∷ ms) = held j m ∷ held_from (j + 1) ms

abbrev pub generated_header : List Generated → Header
generated_header ms = record {
  parties = party_a ∷ party_b ∷ [];
  honest = party_a ∷ party_b ∷ [];
  secrets = held_from 1 ms;
  deposits = (party_a, 1000000) ∷ (party_b, 0) ∷ (party_b, 1000000000) ∷ [];
}

-- ---- the events

-- what the events go on from
pub record Going : Type 0 where
  -- the state of the draws
  pub state : ℕ
  -- the number of the next output
  pub next : ℕ
  -- B's outputs that gifts take, the oldest first, with their values
  pub queue : List (ℕ × ℕ)
  -- the contract's output
  pub contract : ℕ

-- the gift of an output of value v, of which d and the rest are two new outputs
abbrev pub gift : ℕ → ℕ → ℕ → Event
gift n v d = events.Give party_b (n ∷ []) ((party_b, d) ∷ (party_b, v - d) ∷ [])

abbrev pub after_gift : Going → List (ℕ × ℕ) → ℕ → Drawn ℕ → Going
after_gift g rest v d = record {
  state = d.1;
  next = g.next + 2;
  queue = rest ++ (g.next, d.0) ∷ (g.next + 1, v - d.0) ∷ [];
  contract = g.contract;
}

-- a gift of the oldest output; none where there is none
abbrev pub gift_from : List (ℕ × ℕ) → Going → List Event × Going
gift_from [] g = ([], g)
gift_from (o ∷ rest) g = (gift (o.0) (o.1) ((draw_below (o.1 + 1) g.state).0) ∷ [], after_gift g rest (o.1) (draw_below (o.1 + 1) g.state))

-- events before those that are still made
abbrev pub before : {G : Type 0} → List Event → List Event × G → List Event × G
before prefix later = (prefix ++ later.0, later.1)

-- so many gifts
abbrev pub gifts : ℕ → Going → List Event × Going
gifts zero g = ([], g)
gifts (suc n) g = before ((gift_from g.queue g).0) (gifts n ((gift_from g.queue g).1))

-- after a branch of the contract was taken, its output is the next one
abbrev pub taken : Going → Going
taken g = record g { next = g.next + 1; contract = g.next }

-- what stage j plays: the secret is revealed, the branch is taken, and 300 gifts follow
abbrev pub stage_events : ℕ → Going → List Event × Going
stage_events j g = before (events.Reveal 0 party_a (secret_name j) ∷ events.Fire g.contract 0 ∷ []) (gifts 300 (taken g))

-- so many stages from number j on, and the withdrawal
abbrev pub all_stages : ℕ → ℕ → Going → List Event
all_stages zero j g = events.Fire g.contract 0 ∷ []
all_stages (suc n) j g = (stage_events j g).0 ++ all_stages n (j + 1) ((stage_events j g).1)

-- the events up to the beginning of the contract
abbrev pub first_events : List Event
first_events =
    events.Advertise 0 ((codes "x", 0) ∷ (codes "y", 1) ∷ [])
    ∷ events.Commit 0 party_a []
    ∷ events.Commit 0 party_b []
    ∷ events.Endorse 0 party_a
    ∷ events.Endorse 0 party_b
    ∷ events.Init 0 party_a
    ∷ events.Init 0 party_b
    ∷ events.FireInit 0
    ∷ []

-- the contract's first output is #3, behind the three deposits of the header
abbrev pub begun : ℕ → Going
begun state = record { state = state; next = 4; queue = (2, 1000000000) ∷ []; contract = 3 }

-- ---- all of it

abbrev pub generated_events : ℕ → ℕ → List Event
generated_events size state = first_events ++ all_stages size 1 (begun state)

-- the secrets of a number and a size, with the state after them
abbrev pub generated_secrets : ℕ → ℕ → Drawn (List Generated)
generated_secrets number size = draw_secrets size 1 number

abbrev pub generated_run_of : ℕ → Drawn (List Generated) → Run
generated_run_of size ms = record { header = generated_header (ms.0); events = generated_events size (ms.1) }

-- the contract of a number and a size
abbrev pub generated_contract : ℕ → ℕ → Advert
generated_contract number size = generated_advert ((generated_secrets number size).0)

-- the run of a number and a size
abbrev pub generated_run : ℕ → ℕ → Run
generated_run number size = generated_run_of size (generated_secrets number size)
