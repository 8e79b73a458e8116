-- Who signs is read from the words that show it; a line is its words.
use Rattle.std.proofs.Common.{◌≡◌, ℕ, List, [], ◌∷◌, ◌++◌, Bool, false, Option, refl, sym, ap, subst, ◌∙◌, arith, append_assoc}
use Rattle.std.specs.Prelude.{codes}
use Rattle.std.specs.Fmt.{decimal}
use Rattle.spec_bitcoin.specs.declared.label.Label.{Label}
use Rattle.spec_bitcoin.specs.declared.label.Label.TheVariants as labels
use Rattle.spec_bitcoin.specs.Keys.{label_text, path_text}
use Rattle.spec_bitcoin.proofs.StepLemmas.{branch_is, deposit_is}
use Rattle.spec_text.specs.RunText.{newline}
use Rattle.spec_text.specs.Words.{◌>>=◌, label}
use Rattle.spec_tool.specs.declared.which.Which.{Which}
use Rattle.spec_tool.specs.Keyed.Listed.{which_text}
use Rattle.spec_deal.specs.declared.finish.Verb.{Verb}
use Rattle.spec_deal.specs.declared.finish.Verb.TheVariants as verbs
use Rattle.spec_deal.specs.DealText as print
use Rattle.spec_deal.specs.DealText.{verb_text}
use Rattle.spec_deal.specs.Wallets.{wallet_text}
use Rattle.theory_text.proofs.Lines.LabelsBack.{label_back}
use Rattle.theory_text.proofs.Lines.LineBytes.{ends_line}
use Rattle.theory_text.proofs.Lines.Separated.{Lacks, lacks_append}
use Rattle.theory_text.proofs.Options.{some}
use Rattle.theory_play_text.specs.Lines.{Words, number}
use Rattle.theory_play_text.proofs.LineWords.{is_blank, IsPlain, ArePlain, known_word, line_of}
use Rattle.theory_play_text.proofs.Paths.{path_plain}
use Rattle.theory_play_text.proofs.WordsBack.{number_back, number_plain, name_back, name_plain}
use Rattle.theory_plan_text.specs.Audit.{IsShownLabel}
use Rattle.theory_plan_text.proofs.PlanRead.{which_back, which_plain}
use Rattle.theory_deal_text.specs.Signers.{ShownSigner, by_key, by_wallet, ShownSlot, signer_said, verb_said, slot_said, IsSigner, IsSlot}

-- ---- lines

-- a line ends with its line feed
pub line_is : (word : List ℕ) (words : Words) → print.line_of (word ∷ words) ≡ line_of (word ∷ words) ++ newline
line_is word [] = refl
line_is word (next ∷ words) =
    ap (λ (r : List ℕ). word ++ (32 ∷ r)) (line_is next words) ∙ sym (append_assoc word (32 ∷ line_of (next ∷ words)) newline)

-- ---- labels

pub label_read : (l : Label) → IsShownLabel l → label (label_text l) ≡ some l
label_read (labels.Deposit party) h = label_back (labels.Deposit party) tt h
label_read (labels.Branch contract path party) h = label_back (labels.Branch contract path party) (h.0, h.1) h.2

pub branch_lacks : (test : ℕ → Bool) (k q p : List ℕ) → test 58 ≡ false → test 66 ≡ false → Lacks test k → Lacks test q → Lacks test p
    → Lacks test (66 ∷ 58 ∷ (k ++ (58 ∷ (q ++ (58 ∷ p)))))
branch_lacks test k q p colon letter a b c =
    (letter, (colon, lacks_append test k (58 ∷ (q ++ (58 ∷ p))) a (colon, lacks_append test q (58 ∷ p) b (colon, c))))

pub label_plain : (l : Label) → IsShownLabel l → IsPlain (label_text l)
label_plain (labels.Deposit party) h =
    let p = name_plain party h in
    subst IsPlain (sym (deposit_is party)) (record { spaces = (refl, (refl, p.spaces)); ends = (refl, (refl, p.ends)) })
label_plain (labels.Branch contract path party) h =
    let k = number_plain contract (omega (arith, h.0)) in
    let q = path_plain path h.1 in
    let p = name_plain party h.2 in
    subst IsPlain (sym (branch_is contract path party)) (record {
      spaces = branch_lacks is_blank (decimal contract) (path_text path) party refl refl k.spaces q.spaces p.spaces;
      ends = branch_lacks ends_line (decimal contract) (path_text path) party refl refl k.ends q.ends p.ends;
    })

-- ---- signers

abbrev pub signer_word : ShownSigner → List ℕ
signer_word (by_key label) = label_text label
signer_word (by_wallet deposit) = wallet_text deposit

abbrev says_key : List ℕ → Option ShownSigner
says_key word = label word >>= λ l. some (by_key l)

-- the word of a label isn't one of a wallet
key_word : (l : Label) → signer_said (label_text l) ≡ says_key (label_text l)
key_word (labels.Deposit party) = ap signer_said (deposit_is party) ∙ sym (ap says_key (deposit_is party))
key_word (labels.Branch contract path party) =
    ap signer_said (branch_is contract path party) ∙ sym (ap says_key (branch_is contract path party))

pub signer_back : (s : ShownSigner) → IsSigner s → signer_said (signer_word s) ≡ some s
signer_back (by_key l) h = key_word l ∙ ap (λ o. o >>= λ x. some (by_key x)) (label_read l h)
signer_back (by_wallet deposit) h = ap (λ o. o >>= λ x. some (by_wallet x)) (name_back deposit h)

pub signer_plain : (s : ShownSigner) → IsSigner s → IsPlain (signer_word s)
signer_plain (by_key l) h = label_plain l h
signer_plain (by_wallet deposit) h =
    let d = name_plain deposit h in
    record { spaces = (refl, (refl, d.spaces)); ends = (refl, (refl, d.ends)) }

-- ---- verbs

pub verb_back : (v : Verb) → verb_said (verb_text v) ≡ some v
verb_back verbs.Init = refl
verb_back verbs.Authorise = refl
verb_back verbs.Endorse = refl

pub verb_plain : (v : Verb) → IsPlain (verb_text v)
verb_plain verbs.Init = known_word (codes "init") refl
verb_plain verbs.Authorise = known_word (codes "authorise") refl
verb_plain verbs.Endorse = known_word (codes "endorse") refl

-- ---- signatures

-- the four words of a signature, and words behind them
abbrev pub slot_and : ShownSlot → Words → Words
slot_and s words = which_text s.which ∷ decimal s.input ∷ signer_word s.signer ∷ verb_text s.verb ∷ words

abbrev says_slot : Which → ℕ → ShownSigner → Verb → Option ShownSlot
says_slot which k signer verb = some (record { which = which; input = k; signer = signer; verb = verb })

pub slot_back : (s : ShownSlot) → IsSlot s
    → slot_said (which_text s.which) (decimal s.input) (signer_word s.signer) (verb_text s.verb) ≡ some s
slot_back s h =
    ap (λ o. o >>= λ w. number (decimal s.input) >>= λ k. signer_said (signer_word s.signer) >>= λ x. verb_said (verb_text s.verb) >>= λ v.
    says_slot w k x v) (which_back s.which h.which)
    ∙ (ap (λ o. o >>= λ k. signer_said (signer_word s.signer) >>= λ x. verb_said (verb_text s.verb) >>= λ v. says_slot s.which k x v)
    (number_back s.input h.input)
    ∙ (ap (λ o. o >>= λ x. verb_said (verb_text s.verb) >>= λ v. says_slot s.which s.input x v) (signer_back s.signer h.signer)
    ∙ ap (λ o. o >>= λ v. says_slot s.which s.input s.signer v) (verb_back s.verb)))

pub slot_plain : (s : ShownSlot) → IsSlot s → (words : Words) → ArePlain words → ArePlain (slot_and s words)
slot_plain s h words behind =
    (which_plain s.which h.which, (number_plain s.input h.input, (signer_plain s.signer h.signer, (verb_plain s.verb, behind))))
