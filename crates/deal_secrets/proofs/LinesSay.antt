-- Lines of a file of secrets: what they name, and what is taken of them.
use Rattle.std.proofs.Common.{◌≡◌, ℕ, suc, ◌+◌, ◌<◌, ◌≤◌, List, [], ◌∷◌, ◌++◌, length, drop, get_or, Bool, true, false, Option, Some, None}
use Rattle.std.specs.Prelude.{◌||◌, nat_lt, option_map}
use Rattle.std.specs.Str.{bytes_eq}
use Rattle.std.proofs.Math.Seq.{drop-cons}
use Rattle.std.proofs.lemmas.Slice.Eq.{bytes_eq-Decides}
use Rattle.std.proofs.Common.{refl, sym, ap, ◌∙◌, if◌then◌else◌, arith}
use Rattle.spec_data.specs.Lists.{is_among}
use Rattle.spec_data.specs.Digits.{read_hex}
use Rattle.spec_data.specs.Messages.{noted, collision_with}
use Rattle.spec_terms.specs.Advert.{Advert}
use Rattle.spec_terms.specs.Precondition.{secrets, names_of}
use Rattle.spec_terms.specs.declared.pre.Pre.{Pre}
use Rattle.spec_terms.specs.declared.pre.Pre.TheVariants.{Secret}
use Rattle.spec_text.specs.Lines.{words_of}
use Rattle.spec_text.specs.Words.{one_of, given}
use Rattle.spec_compiler.specs.Keyed.Instance.{Instance}
use Rattle.spec_deal.specs.declared.entry.Shown.{Shown}
use Rattle.spec_deal.specs.declared.fault.SecretReason.TheVariants as reasons
use Rattle.spec_deal.specs.declared.fault.SecretFault.TheVariants as faults
use Rattle.spec_deal.specs.SecretFile.{Line, empty, bad, collides, gives, has_length, hashed_line, if_new, with_bytes, named_line}
use Rattle.spec_deal.specs.SecretFile.{secret_line, line_says, read_lines, SecretsRead, refused, collided}
use Rattle.deal_secrets.specs.Gives.{Added, reads_over}

given_some : (b : Bool) (word name : List ℕ) → given b word ≡ Some name → (b ≡ true) × (name ≡ word)
given_some true word name e = (refl, cc)
given_some false word name e = cc

given_none : (b : Bool) (word : List ℕ) → given b word ≡ None → b ≡ false
given_none true word e = cc
given_none false word e = refl

-- the name that is found is the word
pub is_word : (names : List (List ℕ)) (word name : List ℕ) → one_of names word ≡ Some name → name ≡ word
is_word names word name e = (given_some (is_among word names) word name e).1

-- a secret of this name
pub secret_found : (pre : List Pre) (word name party : List ℕ) (entry : Pre) (i : ℕ) → i < length pre → entry ≡ get_or pre i entry
    → entry ≡ Secret party name → name ≡ word
    → is_among word (names_of (secrets (drop i pre))) ≡ is_among word (names_of (secrets pre))
    → Some name ≡ one_of (names_of (secrets pre)) word
secret_found pre word name party entry i less at is same h =
    let here : is_among word (names_of (secrets (drop i pre))) ≡ true =
    ap (λ (es : List Pre). is_among word (names_of (secrets es)))
    (drop-cons pre i entry less ∙ ap (λ (e : Pre). e ∷ drop (suc i) pre) (sym at ∙ is))
    ∙ ap (λ b. b || is_among word (names_of (secrets (drop (suc i) pre))))
    (ap (λ (n : List ℕ). bytes_eq n word) same ∙ (bytes_eq-Decides word word).1 refl) in
    ap Some same ∙ sym (ap (λ b. given b word) (sym h ∙ here))

-- ---- sizes

pub not_longer : (n : ℕ) (text : List ℕ) → length text ≤ n → nat_lt n (length text) ≡ false
not_longer n text h = grind (arith, h)

pub none_found : (o : Option Shown) → option_map (λ (x : Shown). x.line) o ≡ None → o ≡ None
none_found None e = refl
none_found (Some x) e = cc

-- a string that no line has given, of the size of a secret
pub new_line : (hash : List ℕ → List ℕ) (s : Instance) (messages : List (List ℕ)) (shown : Shown) (o : Option Shown)
    → option_map (λ (x : Shown). x.line) o ≡ None → has_length shown.bytes ≡ true
    → if_new hash s messages shown o ≡ hashed_line hash s shown (collision_with hash messages shown.bytes)
new_line hash s messages shown None e long =
    ap (λ b. if b then hashed_line hash s shown (collision_with hash messages shown.bytes) else bad reasons.Length) long
new_line hash s messages shown (Some x) e long = cc

-- ---- what a line names

module _ (hash : List ℕ → List ℕ) (s : Instance) (messages : List (List ℕ)) (taken : List Shown) (n : ℕ) (name word : List ℕ)
    (advert : Advert) (same : s.advert ≡ advert) where
  abbrev names : List (List ℕ)
  names = names_of (secrets advert.pre)

  abbrev says : Bool → Line
  says b = if b then with_bytes hash s messages taken n name (read_hex word) else bad reasons.Foreign

  by_names : named_line hash s messages taken n name word ≡ says (is_among name names)
  by_names = ap (λ (a : Advert). says (is_among name (names_of (secrets a.pre)))) same

  pub named_some : (found : List ℕ) → one_of names name ≡ Some found
      → named_line hash s messages taken n name word ≡ with_bytes hash s messages taken n found (read_hex word)
  named_some found e =
      let r = given_some (is_among name names) name found e in
      by_names ∙ ap says r.0 ∙ ap (λ (x : List ℕ). with_bytes hash s messages taken n x (read_hex word)) (sym r.1)

  pub named_none : one_of names name ≡ None → named_line hash s messages taken n name word ≡ bad reasons.Foreign
  named_none e = by_names ∙ ap says (given_none (is_among name names) name e)

-- ---- lines that are read over

module _ (hash : List ℕ → List ℕ) (s : Instance) (messages : List (List ℕ)) (taken : List Shown) (n : ℕ) where
  pub says_nothing : (words : List (List ℕ)) → reads_over words ≡ true → line_says hash s messages taken n words ≡ empty
  says_nothing [] e = refl
  says_nothing (word ∷ words) e = ap (λ b. if b then empty else secret_line hash s messages taken n (word ∷ words)) e

  pub says_other : (words : List (List ℕ)) → reads_over words ≡ false
      → line_says hash s messages taken n words ≡ secret_line hash s messages taken n words
  says_other [] e = cc
  says_other (word ∷ words) e = ap (λ b. if b then empty else secret_line hash s messages taken n (word ∷ words)) e

-- ---- lines one after another

module _ (hash : List ℕ → List ℕ) (s : Instance) (messages : List (List ℕ)) (taken : List Shown) (n : ℕ) (lines rest : List (List ℕ))
    (line : List ℕ) (here : lines ≡ line ∷ rest) where
  abbrev goes_on : Line → SecretsRead
  goes_on says = elim says [
    | empty ↦ read_lines hash s messages taken (n + 1) rest
    | bad reason ↦ refused (faults.Line n reason)
    | collides earlier later ↦ collided earlier later
    | gives shown ↦ read_lines hash s (noted messages shown.bytes) (taken ++ shown ∷ []) (n + 1) rest
  ]

  pub at_line_says : (says : Line) → line_says hash s messages taken n (words_of line) ≡ says
      → read_lines hash s messages taken n lines ≡ goes_on says
  at_line_says says e = ap (read_lines hash s messages taken n) here ∙ ap goes_on e

-- a line that is taken
pub took : (hash : List ℕ → List ℕ) (s : Instance) (messages : List (List ℕ)) (taken : List Shown) (n : ℕ) (lines rest : List (List ℕ))
    (line : List ℕ) → lines ≡ line ∷ rest → (more : List (List ℕ)) (new : List Shown)
    → Added messages more taken new (line_says hash s messages taken n (words_of line))
    → read_lines hash s more new (n + 1) rest ≡ read_lines hash s messages taken n lines
took hash s messages taken n lines rest line here more new h = by_says (line_says hash s messages taken n (words_of line)) refl h
  where
    by_says : (says : Line) → line_says hash s messages taken n (words_of line) ≡ says → Added messages more taken new says
        → read_lines hash s more new (n + 1) rest ≡ read_lines hash s messages taken n lines
    by_says empty e k =
        (λ i. read_lines hash s (k.0 i) (k.1 i) (n + 1) rest) ∙ sym (at_line_says hash s messages taken n lines rest line here empty e)
    by_says (gives shown) e k =
        (λ i. read_lines hash s (k.0 i) (k.1 i) (n + 1) rest) ∙ sym (at_line_says hash s messages taken n lines rest line here (gives shown) e)
    by_says (bad reason) e k = absurd k
    by_says (collides earlier later) e k = absurd k
