-- The header that a run file spells is one of which the theorems on runs speak.
use Rattle.std.proofs.Common.{◌≡◌, ℕ, ◌+◌, ◌≤◌, Bool, true, false, not, List, [], ◌∷◌, ◌++◌, length, map, Option, Some, None, Ok, Err, refl, ap, subst, ◌∙◌, arith}
use Rattle.std.specs.Prelude.{◌&&◌, nat_lt, nat_le, Result, codes}
use Rattle.std.specs.List.{list_any, sum_by}
use Rattle.std.specs.Str.{bytes_eq}
use Rattle.std.proofs.lemmas.List.{length-append}
use Rattle.std.proofs.lemmas.List.Sums.{sum_by-append}
use Rattle.std.proofs.lemmas.List.Folds.{list_any-append}
use Rattle.std.proofs.lemmas.Bool.Decides.{nat_tests}
use Rattle.spec_data.specs.Lists.{is_among, are_different}
use Rattle.spec_data.specs.Ranges.{max_money}
use Rattle.spec_terms.specs.Readable.{is_name}
use Rattle.spec_run.specs.Conditions.{IsHeader, are_held_apart}
use Rattle.spec_run.specs.declared.header.Header.{Header}
use Rattle.spec_run.specs.declared.header.HeldSecret.{HeldSecret}
use Rattle.spec_text.specs.declared.run_fault.RunLimit.{RunLimit}
use Rattle.spec_text.specs.declared.run_fault.RunFault.{RunFault}
use Rattle.spec_data.specs.Digits.{read_hex}
use Rattle.spec_text.specs.Words.{amount}
use Rattle.spec_text.specs.Lines.{words_of}
use Rattle.spec_text.specs.RunFile.{Line, bad, over, empty, rule, says, spelled_within, is_long, no_header, party_line, honest_line, is_taken, held_secret, secret_of, secret_line, deposit_of, deposit_line, rule_line, header_words, header_line, kept, Headed, header_step, read_header}
use Rattle.theory_text.proofs.ListFacts.{and_is, and_left, and_right, or_no, or_left, or_right, not_yes, not_no, all_among_more, all_push, bytes_eq-back, different_push, by_test}

-- ---- what a line says

abbrev pub says_header : Header → Line Header
says_header h = says h

says_is : (h k : Header) → says_header h ≡ says_header k → h ≡ k
says_is h k e = cc

-- a line that says something is spelled and has room
pub record Within (ok room : Bool) (h k : Header) : Type 0 where
  pub spelled : ok ≡ true
  pub fits : room ≡ true
  pub same : h ≡ k

pub within : (ok room : Bool) (limit : RunLimit) (h k : Header) → spelled_within ok room limit h ≡ says k → Within ok room h k
within true true limit h k e = record { spelled = refl; fits = refl; same = says_is h k e }
within true false limit h k e = absurd cc
within false room limit h k e = absurd cc

-- ---- what is added

one_more : {X : Type 0} (xs : List X) (x : X) (most : ℕ) → nat_lt (length xs) most ≡ true → length (xs ++ x ∷ []) ≤ most
one_more xs x most h = let n = length-append xs (x ∷ []) in grind (arith, nat_tests)

-- a party
with_party : (h : Header) (a : List ℕ) → IsHeader h → (is_name a && not (is_among a h.parties)) ≡ true → nat_lt (length h.parties) 64 ≡ true
    → IsHeader (record h { parties = h.parties ++ a ∷ [] })
with_party h a is new room = record {
  parties = different_push h.parties a is.parties (not_yes _ (and_right (is_name a) _ new));
  honest = is.honest;
  honest_declared = all_among_more (λ x. x) a h.parties h.honest is.honest_declared;
  owners = is.owners;
  names = is.names;
  bytes = is.bytes;
  depositors = all_among_more (λ d. d.0) a h.parties h.deposits is.depositors;
  money = is.money;
  few_parties = one_more h.parties a 64 room;
  few_secrets = is.few_secrets;
  few_deposits = is.few_deposits;
}

-- an honest party
with_honest : (h : Header) (a : List ℕ) → IsHeader h → (is_among a h.parties && not (is_among a h.honest)) ≡ true
    → IsHeader (record h { honest = h.honest ++ a ∷ [] })
with_honest h a is new = record {
  parties = is.parties;
  honest = different_push h.honest a is.honest (not_yes _ (and_right (is_among a h.parties) _ new));
  honest_declared = all_push (λ x. is_among x h.parties) h.honest a is.honest_declared (and_left _ _ new);
  owners = all_among_more (λ x. x.party) a h.honest h.secrets is.owners;
  names = is.names;
  bytes = is.bytes;
  depositors = is.depositors;
  money = is.money;
  few_parties = is.few_parties;
  few_secrets = is.few_secrets;
  few_deposits = is.few_deposits;
}

money_with : (ds : List (List ℕ × ℕ)) (a : List ℕ) (v : ℕ) → nat_le (sum_by (λ d. d.1) ds + v) max_money ≡ true
    → sum_by (λ d. d.1) (ds ++ (a, v) ∷ []) ≤ max_money
money_with ds a v e = let s = sum_by-append (λ (d : List ℕ × ℕ). d.1) ds ((a, v) ∷ []) in grind (arith, nat_tests)

-- a deposit
with_deposit : (h : Header) (a : List ℕ) (v : ℕ) → IsHeader h
    → (is_among a h.parties && nat_le (sum_by (λ d. d.1) h.deposits + v) max_money) ≡ true → nat_lt (length h.deposits) 1000 ≡ true
    → IsHeader (record h { deposits = h.deposits ++ (a, v) ∷ [] })
with_deposit h a v is new room = record {
  parties = is.parties;
  honest = is.honest;
  honest_declared = is.honest_declared;
  owners = is.owners;
  names = is.names;
  bytes = is.bytes;
  depositors = all_push (λ d. is_among (d.0) h.parties) h.deposits (a, v) is.depositors (and_left _ _ new);
  money = money_with h.deposits a v (and_right (is_among a h.parties) _ new);
  few_parties = is.few_parties;
  few_secrets = is.few_secrets;
  few_deposits = one_more h.deposits (a, v) 1000 room;
}

-- ---- secrets

-- whether a secret is another's by owner and name
abbrev is_named : HeldSecret → HeldSecret → Bool
is_named x y = bytes_eq y.party x.party && bytes_eq y.name x.name

named_back : (x : HeldSecret) (a s bytes : List ℕ) → is_taken a s bytes x ≡ false → is_named x (held_secret a s bytes) ≡ false
named_back x a s bytes h =
    let one : (bytes_eq x.party a && bytes_eq x.name s) ≡ false = or_left _ _ h in
    rw (bytes_eq-back a x.party, bytes_eq-back s x.name) one

apart_push : (xs : List HeldSecret) (a s bytes : List ℕ) → are_held_apart xs ≡ true → list_any (is_taken a s bytes) xs ≡ false
    → are_held_apart (xs ++ held_secret a s bytes ∷ []) ≡ true
apart_push [] a s bytes h new = refl
apart_push (x ∷ xs) a s bytes h new =
    let apart : list_any (is_named x) (xs ++ held_secret a s bytes ∷ []) ≡ false =
    list_any-append (is_named x) xs (held_secret a s bytes ∷ [])
    ∙ or_no _ _ (not_yes _ (and_left _ _ h)) (or_no _ _ (named_back x a s bytes (or_left _ _ new)) refl) in
    and_is _ _ (not_no _ apart) (apart_push xs a s bytes (and_right _ _ h) (or_right _ _ new))

new_bytes : (xs : List HeldSecret) (a s bytes : List ℕ) → list_any (is_taken a s bytes) xs ≡ false → is_among bytes (map (λ x. x.bytes) xs) ≡ false
new_bytes [] a s bytes h = refl
new_bytes (x ∷ xs) a s bytes h = or_no _ _ (or_right (bytes_eq x.party a && bytes_eq x.name s) _ (or_left _ _ h)) (new_bytes xs a s bytes (or_right _ _ h))

map_bytes : (xs : List HeldSecret) (x : HeldSecret) → map (λ y. y.bytes) (xs ++ x ∷ []) ≡ map (λ y. y.bytes) xs ++ x.bytes ∷ []
map_bytes [] x = refl
map_bytes (y ∷ ys) x = ap (λ (bs : List (List ℕ)). y.bytes ∷ bs) (map_bytes ys x)

-- a secret
with_secret : (h : Header) (a s bytes : List ℕ) → IsHeader h
    → ((is_among a h.honest && is_name s) && not (list_any (is_taken a s bytes) h.secrets)) ≡ true → nat_lt (length h.secrets) 1000 ≡ true
    → IsHeader (record h { secrets = h.secrets ++ held_secret a s bytes ∷ [] })
with_secret h a s bytes is new room =
    let free : list_any (is_taken a s bytes) h.secrets ≡ false = not_yes _ (and_right (is_among a h.honest && is_name s) _ new) in
    record {
      parties = is.parties;
      honest = is.honest;
      honest_declared = is.honest_declared;
      owners = all_push (λ x. is_among x.party h.honest) h.secrets (held_secret a s bytes) is.owners (and_left _ _ (and_left _ _ new));
      names = apart_push h.secrets a s bytes is.names free;
      bytes = ap are_different (map_bytes h.secrets (held_secret a s bytes))
          ∙ different_push (map (λ x. x.bytes) h.secrets) bytes is.bytes (new_bytes h.secrets a s bytes free);
      depositors = is.depositors;
      money = is.money;
      few_parties = is.few_parties;
      few_secrets = one_more h.secrets (held_secret a s bytes) 1000 room;
      few_deposits = is.few_deposits;
    }

-- ---- lines

party_says : (h k : Header) (ws : List (List ℕ)) → IsHeader h → party_line h ws ≡ says k → IsHeader k
party_says h k [] is e = absurd cc
party_says h k (a ∷ []) is e = let w = within _ _ _ _ k e in subst IsHeader w.same (with_party h a is w.spelled w.fits)
party_says h k (a ∷ b ∷ ws) is e = absurd cc

honest_says : (h k : Header) (ws : List (List ℕ)) → IsHeader h → honest_line h ws ≡ says k → IsHeader k
honest_says h k [] is e = absurd cc
honest_says h k (a ∷ []) is e = let w = within _ _ _ _ k e in subst IsHeader w.same (with_honest h a is w.spelled)
honest_says h k (a ∷ b ∷ ws) is e = absurd cc

secret_of_says : (h k : Header) (a s : List ℕ) (bytes : Option (List ℕ)) → IsHeader h → secret_of h a s bytes ≡ says k → IsHeader k
secret_of_says h k a s None is e = absurd cc
secret_of_says h k a s (Some bytes) is e = let w = within _ _ _ _ k e in subst IsHeader w.same (with_secret h a s bytes is w.spelled w.fits)

secret_says : (h k : Header) (ws : List (List ℕ)) → IsHeader h → secret_line h ws ≡ says k → IsHeader k
secret_says h k [] is e = absurd cc
secret_says h k (a ∷ []) is e = absurd cc
secret_says h k (a ∷ s ∷ []) is e = absurd cc
secret_says h k (a ∷ s ∷ w ∷ []) is e = secret_of_says h k a s (read_hex w) is e
secret_says h k (a ∷ s ∷ w ∷ v ∷ ws) is e = absurd cc

deposit_of_says : (h k : Header) (a : List ℕ) (v : Option ℕ) → IsHeader h → deposit_of h a v ≡ says k → IsHeader k
deposit_of_says h k a None is e = absurd cc
deposit_of_says h k a (Some v) is e = let w = within _ _ _ _ k e in subst IsHeader w.same (with_deposit h a v is w.spelled w.fits)

deposit_says : (h k : Header) (ws : List (List ℕ)) → IsHeader h → deposit_line h ws ≡ says k → IsHeader k
deposit_says h k [] is e = absurd cc
deposit_says h k (a ∷ []) is e = absurd cc
deposit_says h k (a ∷ w ∷ []) is e = deposit_of_says h k a (amount w) is e
deposit_says h k (a ∷ w ∷ v ∷ ws) is e = absurd cc

pub rule_says : (k : Header) (ws : List (List ℕ)) → rule_line ws ≡ says k → ⊥
rule_says k [] e = cc
rule_says k (w ∷ ws) e = cc

words_say : (h k : Header) (ws : List (List ℕ)) → IsHeader h → header_words h ws ≡ says k → IsHeader k
words_say h k [] is e = absurd cc
words_say h k (w ∷ ws) is e =
    by_test (bytes_eq w (codes "party")) _ _ (says_header k) (IsHeader k) e (λ same. party_says h k ws is) (λ e1.
    by_test (bytes_eq w (codes "honest")) _ _ (says_header k) (IsHeader k) e1 (λ same. honest_says h k ws is) (λ e2.
    by_test (bytes_eq w (codes "secret")) _ _ (says_header k) (IsHeader k) e2 (λ same. secret_says h k ws is) (λ e3.
    by_test (bytes_eq w (codes "deposit")) _ _ (says_header k) (IsHeader k) e3 (λ same. deposit_says h k ws is) (λ e4.
    by_test (bytes_eq w (codes "--")) _ _ (says_header k) (IsHeader k) e4 (λ same e5. absurd (rule_says k ws e5)) (λ e5. absurd cc)))))

line_says : (h k : Header) (line : List ℕ) → IsHeader h → header_line h line ≡ says k → IsHeader k
line_says h k line is e = by_test (is_long line) _ _ (says_header k) (IsHeader k) e (λ long f. absurd cc) (words_say h k (words_of line) is)

-- ---- the header

pub no_header_is : IsHeader no_header
no_header_is = record {
  parties = refl;
  honest = refl;
  honest_declared = refl;
  owners = refl;
  names = refl;
  bytes = refl;
  depositors = refl;
  money = omega arith;
  few_parties = omega arith;
  few_secrets = omega arith;
  few_deposits = omega arith;
}

kept_is : (P : Header → Type 0) (h : Header) (said : Line Header) → P h → ((k : Header) → said ≡ says k → P k) → P (kept h said)
kept_is P h (says k) is f = f k refl
kept_is P h bad is f = is
kept_is P h (over w) is f = is
kept_is P h empty is f = is
kept_is P h rule is f = is

abbrev headed : Headed → Result Headed RunFault
headed x = Ok x

headed_eq : (x y : Headed) → headed x ≡ headed y → x ≡ y
headed_eq x y e = cc

fault_headed : (f : RunFault) (x : Headed) → Err f ≡ headed x → ⊥
fault_headed f x e = cc

step_is : (P : Header → Type 0) (h : Header) (n : ℕ) (lines : List (List ℕ)) (said : Line Header) (later : Result Headed RunFault)
    (x : Headed) → P h → (later ≡ headed x → P x.0) → header_step h n lines said later ≡ headed x → P x.0
step_is P h n lines bad later x is f e = absurd (fault_headed _ x e)
step_is P h n lines (over w) later x is f e = absurd (fault_headed _ x e)
step_is P h n lines empty later x is f e = f e
step_is P h n lines rule later x is f e = subst P (ap (λ (z : Headed). z.0) (headed_eq (h, lines, n + 1) x e)) is
step_is P h n lines (says k) later x is f e = f e

-- what each line keeps holds of the header of lines, where it holds of what came before
pub header_keeps : (P : Header → Type 0) → ((h k : Header) (line : List ℕ) → P h → header_line h line ≡ says k → P k)
    → (h : Header) (n : ℕ) (lines : List (List ℕ)) (x : Headed) → P h → read_header h n lines ≡ Ok x → P x.0
header_keeps P keeps h n [] x is e = absurd (fault_headed _ x e)
header_keeps P keeps h n (line ∷ lines) x is e =
    step_is P h n lines (header_line h line) (read_header (kept h (header_line h line)) (n + 1) lines) x is
    (header_keeps P keeps (kept h (header_line h line)) (n + 1) lines x (kept_is P h (header_line h line) is (λ k s. keeps h k line is s))) e

-- the header of lines is one of which the theorems speak, where what came before is
pub header_is : (h : Header) (n : ℕ) (lines : List (List ℕ)) (x : Headed) → IsHeader h → read_header h n lines ≡ Ok x → IsHeader x.0
header_is h n lines x is e = header_keeps IsHeader (λ g k line. line_says g k line) h n lines x is e
