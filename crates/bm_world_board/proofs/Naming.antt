-- The accounts of the declared parties.
use Rattle.std.proofs.Common.{◌≡◌, ℕ, List, [], ◌∷◌, ◌++◌, map, Bool, true, false, cond, Some, refl, sym, ap, ◌∙◌, subst}
use Rattle.std.specs.Prelude.{◌||◌, is_some}
use Rattle.std.specs.List.{All, AllByRecursion, find, list_all}
use Rattle.std.specs.Str.{bytes_eq}
use Rattle.std.proofs.lemmas.Bool.{and_parts}
use Rattle.std.proofs.lemmas.List.Elements.{All-from_recursion}
use Rattle.spec_data.specs.Lists.{is_among}
use Rattle.theory_calculus.proofs.Names.{bytes-true}
use Rattle.bm_hash.specs.declared.messages.TrailError.{TrailError}
use Rattle.bm_hash.specs.Messages.{Message}
use Rattle.bm_hash.specs.Trails.{Hashed, Stops}
use Rattle.bm_hash.proofs.HashesLemmas.{Hashed-then, Stops-then}
use Rattle.bm_world_board.specs.declared.accounts.Account.{Account}
use Rattle.bm_world_board.specs.Accounts.{has_account, account_of, account_with, named_key, script_string, opening_labels, opening_scripts}

-- the accounts of parties with their keys are the parties' accounts
pub accounts-named : (hash : Message → Message) (parties : List (List ℕ)) → map (account_with hash) (map (named_key hash) parties)
    ≡ map (account_of hash) parties
accounts-named hash [] = refl
accounts-named hash (p ∷ ps) = ap (λ l. account_of hash p ∷ l) (accounts-named hash ps)

pub scripts-named : (hash : Message → Message) (parties : List (List ℕ)) → map script_string (map (named_key hash) parties) ≡ opening_scripts hash parties
scripts-named hash [] = refl
scripts-named hash (p ∷ ps) = ap (λ l. script_string (named_key hash p) ∷ l) (scripts-named hash ps)

-- the scripts are hashed after the labels
pub hashed_scripts : {H : Type 0} (digest : H → Message → Message) (first here : H) (old mid new : List Message) (parties : List (List ℕ))
    (named : List (List ℕ × List ℕ))
    → here ≡ first → named ≡ map (named_key (digest first)) parties → Hashed (digest first) old mid (opening_labels parties)
    → Hashed (digest here) mid new (map script_string named)
    → Hashed (digest first) old new (opening_labels parties ++ opening_scripts (digest first) parties)
hashed_scripts digest first here old mid new parties named same is a b =
    let scripts : map script_string named ≡ opening_scripts (digest first) parties = ap (map script_string) is ∙ scripts-named (digest first) parties in
    Hashed-then (digest first) old mid new (opening_labels parties) (opening_scripts (digest first) parties) a
    (subst (λ xs. Hashed (digest first) mid new xs) scripts (subst (λ h. Hashed (digest h) mid new (map script_string named)) same b))

pub stops_scripts : {H : Type 0} (digest : H → Message → Message) (first here : H) (old mid new : List Message) (parties : List (List ℕ))
    (named : List (List ℕ × List ℕ)) (e : TrailError)
    → here ≡ first → named ≡ map (named_key (digest first)) parties → Hashed (digest first) old mid (opening_labels parties)
    → Stops (digest here) mid new (map script_string named) e
    → Stops (digest first) old new (opening_labels parties ++ opening_scripts (digest first) parties) e
stops_scripts digest first here old mid new parties named e same is a b =
    let scripts : map script_string named ≡ opening_scripts (digest first) parties = ap (map script_string) is ∙ scripts-named (digest first) parties in
    Stops-then (digest first) old mid new (opening_labels parties) (opening_scripts (digest first) parties) e a
    (subst (λ xs. Stops (digest first) mid new xs e) scripts (subst (λ h. Stops (digest h) mid new (map script_string named) e) same b))

-- the account of a party that was found
pub found_account : (hash : Message → Message) (parties : List (List ℕ)) (party : List ℕ) (a : Account)
    → find (λ (x : Account). bytes_eq x.party party) (map (account_of hash) parties) ≡ Some a → a ≡ account_of hash party
found_account hash [] party a h = cc
found_account hash (p ∷ ps) party a h = by_name (bytes_eq p party) refl h (found_account hash ps party a)
  where
    by_name : (b : Bool) → bytes_eq p party ≡ b
        → cond b (Some (account_of hash p)) (find (λ (x : Account). bytes_eq x.party party) (map (account_of hash) ps)) ≡ Some a
        → (find (λ (x : Account). bytes_eq x.party party) (map (account_of hash) ps) ≡ Some a → a ≡ account_of hash party) → a ≡ account_of hash party
    by_name true e k later =
        let same : account_of hash p ≡ a = cc in
        sym same ∙ ap (account_of hash) (bytes-true p party e)
    by_name false e k later = later k

-- a party that is declared has an account
among_accounts : (hash : Message → Message) (parties : List (List ℕ)) (party : List ℕ) → is_among party parties ≡ true
    → has_account (map (account_of hash) parties) party ≡ true
among_accounts hash [] party h = cc
among_accounts hash (p ∷ ps) party h = by_name (bytes_eq p party) h (among_accounts hash ps party)
  where
    by_name : (b : Bool) → (b || is_among party ps) ≡ true → (is_among party ps ≡ true → has_account (map (account_of hash) ps) party ≡ true)
        → is_some (cond b (Some (account_of hash p)) (find (λ (x : Account). bytes_eq x.party party) (map (account_of hash) ps))) ≡ true
    by_name true k later = refl
    by_name false k later = later k

module _ (hash : Message → Message) (parties : List (List ℕ)) (accounts : List Account) (same : accounts ≡ map (account_of hash) parties) where
  pub account_there : (party : List ℕ) → is_among party parties ≡ true → has_account accounts party ≡ true
  account_there party h = ap (λ l. has_account l party) same ∙ among_accounts hash parties party h

  each_there : (entries : List (List ℕ × ℕ)) → list_all (λ (e : List ℕ × ℕ). is_among (e.0) parties) entries ≡ true
      → AllByRecursion (λ (e : List ℕ × ℕ). has_account accounts (e.0) ≡ true) entries
  each_there [] h = tt
  each_there (e ∷ es) h =
      let p = and_parts (is_among (e.0) parties) (list_all (λ (x : List ℕ × ℕ). is_among (x.0) parties) es) h in
      (account_there (e.0) p.0, each_there es p.1)

  -- so has the party of each of these entries
  pub accounts_there : (entries : List (List ℕ × ℕ)) → list_all (λ (e : List ℕ × ℕ). is_among (e.0) parties) entries ≡ true
      → All (λ (e : List ℕ × ℕ). has_account accounts (e.0) ≡ true) entries
  accounts_there entries h = All-from_recursion (λ (e : List ℕ × ℕ). has_account accounts (e.0) ≡ true) entries (each_there entries h)
