-- What is answered once a contract and its deal are compiled, or aren't.
use Rattle.std.proofs.Common.{◌≡◌, ℕ, List, [], Option, Some, None, refl, sym, ap, subst, ◌∙◌}
use Rattle.std.specs.Prelude.{IfOk, Result, Ok, Err, option_map}
use Rattle.spec_data.specs.Messages.{collision}
use Rattle.spec_terms.specs.Advert.{Advert}
use Rattle.spec_terms.specs.Precondition.{names_of}
use Rattle.spec_tool.specs.Commands.{Printed}
use Rattle.spec_deal.specs.declared.deal.Deal.{Deal}
use Rattle.spec_deal.specs.declared.fault.DealFault.{DealFault}
use Rattle.spec_deal.specs.Answers.{collides, unless_collided, with_shown_deal}
use Rattle.spec_deal.specs.DealFile.{read_deal}
use Rattle.spec_deal.specs.Needed.{needed_deposits}
use Rattle.spec_deal.specs.Verifier.{secp256k1}
use Rattle.theory_deal.specs.Files.{DealsGiveAll}
use Rattle.bm_hash.specs.Messages.{evidence_of}
use Rattle.bm_hash.specs.Trails.{Hashed, Stops}
use Rattle.bm_hash.specs.declared.messages.TrailError.{TrailError}
use Rattle.bm_hash.specs.declared.messages.TrailError.TheVariants.{Collided}
use Rattle.bm_hash.proofs.Collisions.{hashed_adds, stopped_shows}
use Rattle.deal_file.specs.declared.error.DealError.{DealError}
use Rattle.deal_file.specs.declared.error.DealError.TheVariants as deals
use Rattle.deal_file.specs.Gives.{Gives, Refuses}
use Rattle.bitml_deal.specs.declared.opening.Opening.{Opening}
use Rattle.bitml_deal.specs.declared.opening.Opening.TheVariants.{Refused, Taken}
use Rattle.bitml_deal.specs.Opens.{ShownAnswer, Leads, IsRefused}

-- the same is answered
pub leads_same : {E : Type 0} (hash : List ℕ → List ℕ) (judged other : ShownAnswer → Printed) (messages : List (List ℕ))
    (r : Result Opening E)
    → ((answer : ShownAnswer) → other answer ≡ judged answer) → IfOk r (Leads hash judged messages) → IfOk r (Leads hash other messages)
leads_same hash judged other messages (Ok (Refused reply)) f h = λ answer. f answer ∙ h answer
leads_same hash judged other messages (Ok (Taken c)) f h = record {
  answer_is = λ answer. f answer ∙ h.answer_is answer;
  made = h.made;
  hashed = h.hashed;
}
leads_same hash judged other messages (Err error) f h = tt

-- no string collided
pub unless_none : (hash : List ℕ → List ℕ) (new strings : List (List ℕ)) (p : Printed) → Hashed hash [] new strings
    → unless_collided (collision hash [] strings) p ≡ p
unless_none hash new strings p h = ap (λ o. unless_collided o p) (hashed_adds hash [] new strings refl h).1

-- two strings did
pub collided_is : (hash here : List ℕ → List ℕ) (old new strings : List (List ℕ)) (inner p : Printed) (error : TrailError)
    → here ≡ hash → old ≡ [] → error ≡ Collided → Stops hash old new strings error
    → Some p ≡ option_map (λ pair. collides (pair.0) (pair.1)) (evidence_of here new)
    → unless_collided (collision hash [] strings) inner ≡ p
collided_is hash here old new strings inner p error same empty collision_with stops e =
    let at : Stops hash [] new strings Collided = subst (λ (x : TrailError). Stops hash [] new strings x) collision_with
    (subst (λ (ms : List (List ℕ)). Stops hash ms new strings error) empty stops) in
    let shows = stopped_shows hash [] new strings refl at in
    by_pair (collision hash [] strings)
    (e ∙ ap (option_map (λ pair. collides (pair.0) (pair.1))) (ap (λ h. evidence_of h new) same ∙ shows.0))
  where
    by_pair : (o : Option (List ℕ × List ℕ)) → Some p ≡ option_map (λ pair. collides (pair.0) (pair.1)) o → unless_collided o inner ≡ p
    by_pair None k = cc
    by_pair (Some pair) k = cc

-- a deal that is taken has a place for each deposit
pub places_of : DealsGiveAll → (advert : Advert) (text : List ℕ) (r : Result Deal DealError) → Gives (λ d. d) r (read_deal secp256k1 advert text)
    → IfOk r (λ d. names_of d.deposits ≡ needed_deposits advert)
places_of all advert text (Ok deal) h = (all secp256k1 advert text deal h).deposits
places_of all advert text (Err error) h = tt

-- one that isn't taken
pub refused_leads : {E : Type 0} (hash : List ℕ → List ℕ) (advert : Advert) (read : Result Deal DealFault) (messages : List (List ℕ))
    (error : DealError) (r : Result Opening E)
    → Refuses error read → IfOk r (IsRefused error) → IfOk r (Leads hash (λ answer. with_shown_deal hash answer advert read) messages)
refused_leads hash advert read messages (deals.Refused fault) (Ok (Refused reply)) e h =
    λ answer. ap (with_shown_deal hash answer advert) e ∙ sym h
refused_leads hash advert read messages (deals.Refused fault) (Ok (Taken c)) e h = absurd h
refused_leads hash advert read messages deals.Memory (Ok opening) e h = absurd h
refused_leads hash advert read messages error (Err requirement) e h = tt
