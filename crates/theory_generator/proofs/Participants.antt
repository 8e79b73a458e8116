-- Who takes part in the generated contract.
use Rattle.std.proofs.Common.{◌≡◌, ℕ, ◌+◌, true, List, [], ◌∷◌, ◌++◌, map, refl}
use Rattle.std.specs.List.{AllByRecursion}
use Rattle.spec_data.specs.Lists.{is_among}
use Rattle.spec_terms.specs.Parties.{choice_mentions, add_all, participants}
use Rattle.spec_terms.specs.Precondition.{party_of}
use Rattle.spec_text.specs.Generator.{Generated, party_a, party_b, stages, secret_entries, generated_advert}

-- both parties
abbrev pub both_parties : List (List ℕ)
both_parties = party_a ∷ party_b ∷ []

abbrev Known : List (List ℕ) → Type 0
Known names = AllByRecursion (λ name. is_among name both_parties ≡ true) names

known_append : (xs ys : List (List ℕ)) → Known xs → Known ys → Known (xs ++ ys)
known_append [] ys h k = k
known_append (x ∷ xs) ys h k = (h.0, known_append xs ys h.1 k)

known_more : (names new : List (List ℕ)) → AllByRecursion (λ name. is_among name names ≡ true) new → add_all names new ≡ names
known_more names [] h = refl
known_more names (x ∷ xs) h = rw h.0 (known_more names xs h.1)

entries_known : (j : ℕ) (ms : List Generated) → Known (map party_of (secret_entries j ms))
entries_known j [] = tt
entries_known j (m ∷ ms) = (refl, entries_known (j + 1) ms)

stages_known : (j : ℕ) (ms : List Generated) → Known (choice_mentions (stages j ms))
stages_known j [] = (refl, tt)
stages_known j (m ∷ ms) = known_append (choice_mentions (stages (j + 1) ms)) (party_b ∷ []) (stages_known (j + 1) ms) (refl, tt)

pub participants-made : (ms : List Generated) → participants (generated_advert ms) ≡ both_parties
participants-made ms =
    let entries = map party_of (secret_entries 1 ms) in
    let mentions = choice_mentions (stages 1 ms) in
    known_more both_parties (entries ++ mentions) (known_append entries mentions (entries_known 1 ms) (stages_known 1 ms))
