-- A chain is followed from where a deal begins.
use Rattle.std.proofs.Common.{◌≡◌, ℕ, List, [], map, refl, ap, ◌∙◌}
use Rattle.spec_compiler.specs.Keyed.Keys.{Keys}
use Rattle.spec_compiler.specs.Keyed.Instance.{Instance}
use Rattle.spec_deal.specs.declared.transaction.Transaction.{Transaction}
use Rattle.spec_deal.specs.Hashed.{deal_strings}
use Rattle.spec_deal.specs.Transactions.{transactions}
use Rattle.spec_chain.specs.declared.reading.Reading.{Reading}
use Rattle.spec_chain.specs.Chain as chain
use Rattle.spec_chain.specs.Chain.{follow, follow_reading, opening_course}
use Rattle.spec_chain.specs.Following.{State, opening_state}
use Rattle.bm_hash.specs.Trails.{Hashed}
use Rattle.bm_hash.proofs.Collisions.{hashed_adds}
use Rattle.deal_follow.specs.declared.event.Event.{Event}
use Rattle.deal_follow.specs.declared.following.Course.{Course}
use Rattle.deal_follow.specs.Seen.{state_in, happened_in, course_in}

pub opening_is : (hash : List ℕ → List ℕ) (keys : Keys) (s : Instance) (messages : List (List ℕ)) (course : Course)
    → Hashed hash [] messages (deal_strings hash keys s) → state_in course.standing ≡ opening_state s → course.history.items ≡ []
    → course_in messages course ≡ opening_course hash keys s
opening_is hash keys s messages course hashed state history =
    ap (λ (state : State). record { state = state; history = map happened_in course.history.items; messages = messages }) state
    ∙ ap (λ (es : List Event). record { state = opening_state s; history = map happened_in es; messages = messages }) history
    ∙ ap
    (λ (ms : List (List ℕ)). record { state = opening_state s; history = []; messages = ms })
    (hashed_adds hash [] messages (deal_strings hash keys s) refl hashed).0

pub reading_is : (hash : List ℕ → List ℕ) (keys : Keys) (s b : Instance) (ts us : List Transaction) (reading : Reading) (course : chain.Course)
    → b ≡ s → us ≡ ts → ts ≡ transactions hash keys s → course ≡ opening_course hash keys s
    → follow hash b us reading.fault reading.tip course reading.confirmed ≡ follow_reading hash keys s reading
reading_is hash keys s b ts us reading course same_setting same_transactions are same_course =
    ap (λ (x : Instance). follow hash x us reading.fault reading.tip course reading.confirmed) same_setting
    ∙ ap
    (λ (x : List Transaction). follow hash s x reading.fault reading.tip course reading.confirmed)
    (same_transactions ∙ are)
    ∙ ap (λ x. follow hash s (transactions hash keys s) reading.fault reading.tip x reading.confirmed) same_course
