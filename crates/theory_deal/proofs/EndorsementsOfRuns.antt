-- The endorsements of a deal are those that honest parties in runs wait for.
use Rattle.std.proofs.Common.{◌≡◌, ℕ, ◌+◌, List, [], ◌∷◌, ◌++◌, map, Bool, true, false, not, Option, Some, None, refl, ap, ◌∙◌}
use Rattle.std.specs.Prelude.{filter, cond}
use Rattle.std.specs.List.{flat_map}
use Rattle.std.specs.Option.{option_map_or}
use Rattle.std.proofs.lemmas.List.{map-append}
use Rattle.std.proofs.lemmas.List.Elements.{filter-append}
use Rattle.spec_terms.specs.Term as term
use Rattle.spec_terms.specs.Core.{core, is_asked, puts_of}
use Rattle.spec_terms.specs.Parties.{participants}
use Rattle.spec_terms.specs.Paths.{at}
use Rattle.spec_terms.specs.Precondition.{Holding, persistent}
use Rattle.spec_terms.specs.declared.path.PathStep.{PathStep}
use Rattle.spec_compiler.specs.declared.prepared.Prepared.{Prepared}
use Rattle.spec_compiler.specs.declared.unsigned.Spent.{Spent}
use Rattle.spec_compiler.specs.declared.unsigned.Unsigned.{Unsigned}
use Rattle.spec_compiler.specs.Keyed.Keys.{Keys, key_in}
use Rattle.spec_compiler.specs.Keyed.Instance.{Instance, branch_label, deposit_key}
use Rattle.spec_compiler.specs.Keyed.Transactions.{tx_of, prepared, digest_of_spent}
use Rattle.spec_compiler.specs.Keyed.Compilation.{path_transactions}
use Rattle.spec_compiler.specs.Keyed.Endorsements.{Need, put_owner, put_needs, needs_of, path_needs, needs}
use Rattle.spec_tool.specs.declared.which.Which.TheVariants as names
use Rattle.spec_tool.specs.Keyed.Listed.{deposit_signer, branch_signers, path_listed, initial_listed}
use Rattle.spec_deal.specs.Slots.{Slot, verb_if_asked, branch_verb, verb_of, is_endorsement, input_slots, slots_from, listed_slots}
use Rattle.theory_deal.specs.Signing.{need_of, EndorsementsOfRuns}

abbrev picked : List Slot → List Slot
picked slots = filter (λ (slot : Slot). is_endorsement slot.verb) slots

module _ (hash : List ℕ → List ℕ) (keys : Keys) (s : Instance) where
  -- the endorsements among these, as runs know them
  abbrev shown : List Slot → List Need
  shown slots = map (need_of hash keys) (picked slots)

  shown_append : (xs ys : List Slot) → shown (xs ++ ys) ≡ shown xs ++ shown ys
  shown_append xs ys =
      ap (map (need_of hash keys)) (filter-append (λ (slot : Slot). is_endorsement slot.verb) xs ys)
      ∙ map-append (need_of hash keys) (picked xs) (picked ys)

  -- one more by a party that is asked or not
  shown_one : (slot : Slot) (rest : List Slot) (asked : Bool) → slot.verb ≡ verb_if_asked asked
      → shown (slot ∷ rest) ≡ cond (not asked) (need_of hash keys slot ∷ shown rest) (shown rest)
  shown_one slot rest true e =
      ap (λ v. map (need_of hash keys) (cond (is_endorsement v) (slot ∷ picked rest) (picked rest))) e
  shown_one slot rest false e =
      ap (λ v. map (need_of hash keys) (cond (is_endorsement v) (slot ∷ picked rest) (picked rest))) e

  -- ---- the initial transaction has none

  none_initial : (k : ℕ) (spends : List Spent) (ds : List (List ℕ × Holding))
      → shown (slots_from keys s.advert (initial_listed hash keys s) k spends (map (λ d. deposit_signer (d.1).owner) ds)) ≡ []
  none_initial k [] ds = refl
  none_initial k (spent ∷ spends) [] = refl
  none_initial k (spent ∷ spends) (d ∷ ds) = none_initial (k + 1) spends ds

  -- ---- a path's

  module _ (path : List PathStep) (d : Unsigned) where
    branch_shown : (b : term.Guarded) (spent : Spent) (parties : List (List ℕ)) → at s.advert.root path ≡ Some b
        → shown (input_slots keys s.advert (path_listed s path d) 0 spent (map (branch_label s.contract path) parties))
        ≡ map
        (λ party.
        record {
          path = path;
          party = party;
          key = key_in hash keys (branch_label s.contract path party);
          digest = digest_of_spent hash (tx_of d) spent;
        })
        (filter (λ party. not (is_asked b party)) parties)
    branch_shown b spent [] h = refl
    branch_shown b spent (p ∷ ps) h =
        let slot : Slot = record {
          which = names.At path;
          pending = d;
          input = 0;
          spent = spent;
          label = branch_label s.contract path p;
          verb = verb_of s.advert (names.At path) (branch_label s.contract path p);
          wallet = None;
        } in
        shown_one slot (input_slots keys s.advert (path_listed s path d) 0 spent (map (branch_label s.contract path) ps)) (is_asked b p)
        (ap (λ (o : Option term.Guarded). branch_verb o p) h)
        ∙ by_test (is_asked b p) (filter (λ party. not (is_asked b party)) ps) (branch_shown b spent ps h)
      where
        need : List ℕ → Need
        need party = record {
          path = path;
          party = party;
          key = key_in hash keys (branch_label s.contract path party);
          digest = digest_of_spent hash (tx_of d) spent;
        }

        rest : List Need
        rest = shown (input_slots keys s.advert (path_listed s path d) 0 spent (map (branch_label s.contract path) ps))

        by_test : (t : Bool) (ns : List (List ℕ)) → rest ≡ map need ns
            → cond (not t) (need p ∷ rest) rest ≡ map need (cond (not t) (p ∷ ns) ns)
        by_test true ns e = e
        by_test false ns e = ap (λ (x : List Need). need p ∷ x) e

    puts_shown : (k : ℕ) (spends : List Spent) (puts : List (List ℕ))
        → shown (slots_from keys s.advert (path_listed s path d) k spends (map (λ name. deposit_signer (put_owner s.advert name)) puts))
        ≡ put_needs hash keys s.advert path puts (map (digest_of_spent hash (tx_of d)) spends)
    puts_shown k [] [] = refl
    puts_shown k [] (name ∷ puts) = refl
    puts_shown k (spent ∷ spends) [] = refl
    puts_shown k (spent ∷ spends) (name ∷ puts) =
        let need : Need = record {
          path = path;
          party = put_owner s.advert name;
          key = deposit_key hash keys (put_owner s.advert name);
          digest = digest_of_spent hash (tx_of d) spent;
        } in
        ap (λ (x : List Need). need ∷ x) (puts_shown (k + 1) spends puts)

    unsigned_none : (k : ℕ) (spends : List Spent) → shown (slots_from keys s.advert (path_listed s path d) k spends []) ≡ []
    unsigned_none k [] = refl
    unsigned_none k (spent ∷ spends) = refl

    all_shown : (b : term.Guarded) (spends : List Spent) → at s.advert.root path ≡ Some b
        → shown (slots_from keys s.advert (path_listed s path d) 0 spends (branch_signers s.contract s.advert path b))
        ≡ needs_of hash keys s.contract s.advert path b (map (digest_of_spent hash (tx_of d)) spends)
    all_shown b [] h = refl
    all_shown b (spent ∷ spends) h =
        let first = branch_shown b spent (participants s.advert) h in
        let later = puts_shown 1 spends (puts_of (core b)) in
        shown_append (input_slots keys s.advert (path_listed s path d) 0 spent (map (branch_label s.contract path) (participants s.advert)))
        (slots_from keys s.advert (path_listed s path d) 1 spends
        (map (λ name. deposit_signer (put_owner s.advert name)) (puts_of (core b))))
        ∙ (λ i. first i ++ later i)

    one_path : shown (listed_slots keys s.advert (path_listed s path d))
        ≡ path_needs hash keys s.contract s.advert path (prepared hash d)
    one_path = by_branch (at s.advert.root path) refl
      where
        by_branch : (o : Option term.Guarded) → at s.advert.root path ≡ o
            → shown (slots_from keys s.advert (path_listed s path d) 0 d.spends
            (option_map_or (branch_signers s.contract s.advert path) o []))
            ≡ option_map_or
            (λ b. needs_of hash keys s.contract s.advert path b (map (digest_of_spent hash (tx_of d)) d.spends)) o []
        by_branch None h = unsigned_none 0 d.spends
        by_branch (Some b) h = all_shown b d.spends h

  paths_shown : (es : List (List PathStep × Unsigned))
      → shown (flat_map (listed_slots keys s.advert) (map (λ p. path_listed s (p.0) (p.1)) es))
      ≡ needs hash keys s.contract s.advert (map {B = List PathStep × Prepared} (λ p. (p.0, prepared hash p.1)) es)
  paths_shown [] = refl
  paths_shown (e ∷ es) =
      let first = one_path (e.0) (e.1) in
      let later = paths_shown es in
      shown_append (listed_slots keys s.advert (path_listed s (e.0) (e.1)))
      (flat_map (listed_slots keys s.advert) (map (λ p. path_listed s (p.0) (p.1)) es))
      ∙ (λ i. first i ++ later i)

pub endorsements_of_runs : EndorsementsOfRuns
endorsements_of_runs hash keys s =
    let first = none_initial hash keys s 0 (initial_listed hash keys s).pending.spends (persistent s.advert.pre) in
    let later = paths_shown hash keys s (path_transactions hash keys s) in
    shown_append hash keys s (listed_slots keys s.advert (initial_listed hash keys s))
    (flat_map (listed_slots keys s.advert) (map (λ p. path_listed s (p.0) (p.1)) (path_transactions hash keys s)))
    ∙ (λ i. first i ++ later i)
