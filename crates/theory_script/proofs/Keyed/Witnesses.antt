-- A witness that is handed valid signatures and fitting secrets opens its branch.
use Rattle.std.proofs.Common.{◌≡◌, ℕ, zero, suc, ◌+◌, List, [], ◌∷◌, ◌++◌, length, Bool, true, false, refl, ap, ◌∙◌, append_assoc}
use Rattle.std.specs.Prelude.{reverse, replicate, nat_lt, nat_le, ◌&&◌, if◌then◌else◌}
use Rattle.std.specs.List.{list_all}
use Rattle.std.proofs.lemmas.Bool.{and_parts, and_from}
use Rattle.std.proofs.lemmas.List.{reverse-append, reverse-reverse}
use Rattle.spec_terms.specs.Term.{Contract, branches}
use Rattle.spec_terms.specs.declared.path.PathStep.{PathStep}
use Rattle.spec_bitcoin.specs.Meaning.{script_meaning}
use Rattle.spec_compiler.specs.Keyed.Keys.{Keys}
use Rattle.spec_compiler.specs.Keyed.Instance.{Instance, position_script}
use Rattle.spec_compiler.specs.Witness.{selectors, witness_stack}
use Rattle.spec_compiler.specs.Keyed.Statements.{is_secret, are_secrets, is_short, AreKeys, IsCompiled, Opens, Fills}
use Rattle.theory_calculus.proofs.Members.{all_append}
use Rattle.theory_script.proofs.ScriptTheorem.{all_reverse, selectors_select}
use Rattle.theory_script.proofs.Keyed.Opened.{opens_exactly}

pub from_top : (signatures strings : List (List ℕ)) (i n : ℕ) → reverse (witness_stack signatures strings i n) ≡ selectors i n ++ (strings ++ signatures)
from_top signatures strings i n =
    reverse-append (reverse signatures) (reverse strings ++ reverse (selectors i n))
    ∙ ap (λ (xs : List (List ℕ)). xs ++ reverse (reverse signatures)) (reverse-append (reverse strings) (reverse (selectors i n)))
    ∙ rw (reverse-reverse, reverse-reverse, reverse-reverse) (append_assoc (selectors i n) strings signatures)

-- ---- its items are short

empty_short : (i : ℕ) → list_all is_short (replicate i []) ≡ true
empty_short zero = refl
empty_short (suc i) = empty_short i

selectors_short : (i n : ℕ) → list_all is_short (selectors i n) ≡ true
selectors_short i n = by_last (nat_lt (i + 1) n)
  where
    by_last : (b : Bool) → list_all is_short (if b then replicate i [] ++ (1 ∷ []) ∷ [] else replicate i []) ≡ true
    by_last true = all_append is_short (replicate i []) ((1 ∷ []) ∷ []) (empty_short i) refl
    by_last false = empty_short i

pub secrets_short : (hash : List ℕ → List ℕ) (strings digests : List (List ℕ)) → are_secrets hash strings digests ≡ true → list_all is_short strings ≡ true
secrets_short hash [] digests h = refl
secrets_short hash (x ∷ strings) [] h = cc
secrets_short hash (x ∷ strings) (digest ∷ digests) h =
    let p = and_parts (is_secret hash x digest) (are_secrets hash strings digests) h in
    let q = and_parts (nat_le 16 (length x) && nat_le (length x) 520) _ p.0 in
    let r = and_parts (nat_le 16 (length x)) (nat_le (length x) 520) q.0 in
    and_from (is_short x) (list_all is_short strings) r.1 (secrets_short hash strings digests p.1)

pub stack_short : (signatures strings : List (List ℕ)) (i n : ℕ) → list_all is_short signatures ≡ true → list_all is_short strings ≡ true
    → list_all is_short (witness_stack signatures strings i n) ≡ true
stack_short signatures strings i n h k =
    all_append is_short (reverse signatures) _ (all_reverse is_short signatures h)
    (all_append is_short (reverse strings) (reverse (selectors i n)) (all_reverse is_short strings k)
    (all_reverse is_short (selectors i n) (selectors_short i n)))

-- ---- it opens

pub witness_opens : (hash : List ℕ → List ℕ) (keys : Keys) (valid : List ℕ → List ℕ → Bool) (s : Instance) (position : List PathStep)
    (choice : Contract) (i : ℕ) (signatures strings : List (List ℕ)) → AreKeys hash keys → IsCompiled s position choice
    → Fills hash keys valid s position choice i signatures strings
    → script_meaning hash valid (position_script hash keys s position choice) (witness_stack signatures strings i (length (branches choice))) ≡ true
witness_opens hash keys valid s position choice i signatures strings are_keys c f =
    let short = stack_short signatures strings i (length (branches choice)) f.short (secrets_short hash strings _ f.fits) in
    let opens : Opens hash keys valid s position choice (reverse (witness_stack signatures strings i (length (branches choice)))) = record {
      i = i;
      b = f.b;
      is_branch = f.is_branch;
      selectors = selectors i (length (branches choice));
      strings = strings;
      signatures = signatures;
      is_stack = from_top signatures strings i (length (branches choice));
      selects = selectors_select i (length (branches choice));
      fits = f.fits;
      predicate = f.predicate;
      signed = f.signed;
    } in
    (opens_exactly hash keys s position valid choice (witness_stack signatures strings i (length (branches choice))) are_keys c short).opens_true opens
