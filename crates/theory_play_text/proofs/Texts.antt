-- The text that is printed of a run is that of its lines.
use Rattle.std.proofs.Common.{◌≡◌, ℕ, ◌+◌, Bool, List, [], ◌∷◌, ◌++◌, map, length, Option, Some, None, refl, sym, ap, ◌∙◌, append_assoc}
use Rattle.std.proofs.Common.{append-nil}
use Rattle.std.specs.Prelude.{flat_map, codes}
use Rattle.std.specs.Fmt.{decimal}
use Rattle.spec_terms.specs.Advert.{Advert}
use Rattle.spec_terms.specs.Precondition.{secrets}
use Rattle.spec_bitcoin.specs.Keys.{path_text}
use Rattle.spec_data.specs.Digits.{hex_text}
use Rattle.spec_calculus.specs.declared.parts.Deposit.{Deposit}
use Rattle.spec_calculus.specs.declared.parts.ActiveContract.{ActiveContract}
use Rattle.spec_calculus.specs.declared.step.Step.{Step}
use Rattle.spec_calculus.specs.declared.step.Step.TheVariants as steps
use Rattle.spec_calculus.specs.Configuration.{Configuration}
use Rattle.spec_calculus.specs.Branches.{length_at, is_revealed}
use Rattle.spec_run.specs.declared.event.Event.{Event}
use Rattle.spec_text.specs.declared.entry.Entry.{Entry}
use Rattle.spec_text.specs.RunText.{newline, output_text, event_text}
use Rattle.spec_text.specs.OutcomeText.{outcome_text}
use Rattle.spec_text.specs.StepText.{owner_text, length_text, step_words, step_line, made_by, step_lines}
use Rattle.spec_text.specs.PlayText.{start_lines, event_line, entry_text, entries_text, live_line, deposit_line, contract_line, shown_word}
use Rattle.spec_text.specs.PlayText.{secret_line, secret_line_of, secret_lines, offer_line, end_text}
use Rattle.spec_text.specs.PlayText.{Ending, whole, guessed, collided, guessed_line, collided_line, ending_text, report_text}
use Rattle.theory_text.proofs.Lines.LineBytes.{lined}
use Rattle.theory_play_text.specs.Lines.{Said, ShownSecret}
use Rattle.theory_play_text.specs.Lines as line
use Rattle.theory_play_text.specs.Report.{shown_step, secret_if, secret_of, secrets_from}
use Rattle.theory_play_text.specs.Printable.{starts, made_beside, step_said, entry_lines, entries_lines, end_lines, ending_lines, run_lines}
use Rattle.theory_play_text.specs.Printable.{report_lines}

-- ---- one line, without its end

abbrev pub said_line : Said → List ℕ
said_line (line.start n owner value) = codes "start " ++ (output_text n ++ (codes " " ++ (owner ++ (codes " " ++ decimal value))))
said_line (line.event i e) = codes "event " ++ (decimal i ++ (codes " " ++ event_text e))
said_line (line.outcome o) = outcome_text o
said_line (line.step s made) = codes "step " ++ step_words made s
said_line line.ending = codes "end"
said_line (line.tip height) = codes "tip " ++ decimal height
said_line (line.live o) = codes "live " ++ (output_text o.0 ++ (codes " " ++ decimal o.1))
said_line (line.time height) = codes "time " ++ decimal height
said_line (line.deposit d) =
    codes "deposit " ++ (output_text d.number ++ (codes " " ++ (owner_text d.owner ++ (codes " " ++ decimal d.value))))
said_line (line.contract a) =
    codes "contract "
    ++ (output_text a.number ++ (codes " " ++
    (decimal a.contract ++ (codes " " ++ (path_text a.position ++ (codes " " ++ decimal a.balance))))))
said_line (line.secret x) =
    codes "secret "
    ++ (decimal x.contract ++ (codes " " ++
    (x.party ++ (codes " " ++ (x.name ++ (codes " " ++ (length_text x.length ++ (codes " " ++ shown_word x.revealed))))))))
said_line (line.offer e) = codes "offer " ++ event_text e
said_line (line.guessed party name) = codes "guessed " ++ (party ++ (codes " " ++ name))
said_line (line.collided earlier later) = codes "collided " ++ (hex_text earlier ++ (codes " " ++ hex_text later))

abbrev pub text_of : List Said → List ℕ
text_of [] = []
text_of (l ∷ ls) = (said_line l ++ newline) ++ text_of ls

pub text_lined : (ls : List Said) → text_of ls ≡ lined (map said_line ls)
text_lined [] = refl
text_lined (l ∷ ls) = ap (λ (rest : List ℕ). (said_line l ++ newline) ++ rest) (text_lined ls)

text_append : (xs ys : List Said) → text_of (xs ++ ys) ≡ text_of xs ++ text_of ys
text_append [] ys = refl
text_append (x ∷ xs) ys =
    ap (λ (rest : List ℕ). (said_line x ++ newline) ++ rest) (text_append xs ys)
    ∙ sym (append_assoc (said_line x ++ newline) (text_of xs) (text_of ys))

text_map : {A : Type 0} (make : A → Said) (print : A → List ℕ) → ((x : A) → print x ≡ said_line (make x) ++ newline) → (xs : List A)
    → flat_map print xs ≡ text_of (map make xs)
text_map make print f [] = refl
text_map make print f (x ∷ xs) = λ i. f x i ++ text_map make print f xs i

-- ---- where the end of a line stands

two_words : (a b rest : List ℕ) → a ++ (32 ∷ (b ++ rest)) ≡ (a ++ (32 ∷ b)) ++ rest
two_words a b rest = sym (append_assoc a (32 ∷ b) rest)

three_words : (a b c rest : List ℕ) → a ++ (32 ∷ (b ++ (32 ∷ (c ++ rest)))) ≡ (a ++ (32 ∷ (b ++ (32 ∷ c)))) ++ rest
three_words a b c rest = ap (λ (r : List ℕ). a ++ (32 ∷ r)) (two_words b c rest) ∙ two_words a (b ++ (32 ∷ c)) rest

four_words : (a b c d rest : List ℕ)
    → a ++ (32 ∷ (b ++ (32 ∷ (c ++ (32 ∷ (d ++ rest)))))) ≡ (a ++ (32 ∷ (b ++ (32 ∷ (c ++ (32 ∷ d)))))) ++ rest
four_words a b c d rest =
    ap (λ (r : List ℕ). a ++ (32 ∷ r)) (three_words b c d rest) ∙ two_words a (b ++ (32 ∷ (c ++ (32 ∷ d)))) rest

five_words : (a b c d e rest : List ℕ)
    → a ++ (32 ∷ (b ++ (32 ∷ (c ++ (32 ∷ (d ++ (32 ∷ (e ++ rest)))))))) ≡ (a ++ (32 ∷ (b ++ (32 ∷ (c ++ (32 ∷ (d ++ (32 ∷ e)))))))) ++ rest
five_words a b c d e rest =
    ap (λ (r : List ℕ). a ++ (32 ∷ r)) (four_words b c d e rest) ∙ two_words a (b ++ (32 ∷ (c ++ (32 ∷ (d ++ (32 ∷ e)))))) rest

-- ---- the opening and the entries

starts_text : (n : ℕ) (ds : List (List ℕ × ℕ)) → start_lines n ds ≡ text_of (starts n ds)
starts_text n [] = refl
starts_text n (d ∷ ds) =
    let later = start_lines (n + 1) ds in
    ap (λ (r : List ℕ). codes "start " ++ r) (three_words (output_text n) (d.0) (decimal d.1) (newline ++ later))
    ∙ (ap (λ (r : List ℕ). codes "start " ++ r) (sym (append_assoc (output_text n ++ (32 ∷ (d.0 ++ (32 ∷ decimal d.1)))) newline later))
    ∙ ap (λ (r : List ℕ). (said_line (line.start n (d.0) (d.1)) ++ newline) ++ r) (starts_text (n + 1) ds))

event_text_of : (i : ℕ) (e : Event) → event_line i e ≡ said_line (line.event i e) ++ newline
event_text_of i e = ap (λ (r : List ℕ). codes "event " ++ r) (two_words (decimal i) (event_text e) newline)

step_as_shown : (made : List ℕ) (s : Step) → step_words made s ≡ step_words (made_beside made s) (shown_step s)
step_as_shown made (steps.Delay n) = refl
step_as_shown made (steps.AuthMove a action) = refl
step_as_shown made (steps.Move action) = refl
step_as_shown made (steps.Advertise k bs) = refl
step_as_shown made (steps.Commit k a ls) = refl
step_as_shown made (steps.AuthInit k a x) = refl
step_as_shown made (steps.Init k) = refl
step_as_shown made (steps.Reveal k a s) = refl
step_as_shown made (steps.AuthBranch a n i) = refl
step_as_shown made (steps.PutReveal n i) = refl
step_as_shown made (steps.Withdraw n i) = refl
step_as_shown made (steps.Split n i) = refl

steps_text : (made : List ℕ) (ss : List Step) → flat_map (step_line made) ss ≡ text_of (map (step_said made) ss)
steps_text made ss =
    text_map (step_said made) (step_line made) (λ s. ap (λ (ws : List ℕ). codes "step " ++ (ws ++ newline)) (step_as_shown made s)) ss

entry_text_of : (i : ℕ) (e : Entry) → entry_text i e ≡ text_of (entry_lines i e)
entry_text_of i e =
    let later = step_lines e.outcome e.steps in
    (λ j. event_text_of i e.event j ++ sym (append_assoc (outcome_text e.outcome) newline later) j)
    ∙ ap (λ (r : List ℕ). (said_line (line.event i e.event) ++ newline) ++ ((outcome_text e.outcome ++ newline) ++ r))
    (steps_text (made_by e.outcome) e.steps)

entries_text_of : (i : ℕ) (es : List Entry) → entries_text i es ≡ text_of (entries_lines i es)
entries_text_of i [] = refl
entries_text_of i (e ∷ es) =
    (λ j. entry_text_of i e j ++ entries_text_of (i + 1) es j) ∙ sym (text_append (entry_lines i e) (entries_lines (i + 1) es))

-- ---- the end

live_text : (o : ℕ × ℕ) → live_line o ≡ said_line (line.live o) ++ newline
live_text o = ap (λ (r : List ℕ). codes "live " ++ r) (two_words (output_text o.0) (decimal o.1) newline)

deposit_text : (d : Deposit) → deposit_line d ≡ said_line (line.deposit d) ++ newline
deposit_text d =
    ap (λ (r : List ℕ). codes "deposit " ++ r) (three_words (output_text d.number) (owner_text d.owner) (decimal d.value) newline)

contract_text : (a : ActiveContract) → contract_line a ≡ said_line (line.contract a) ++ newline
contract_text a =
    ap (λ (r : List ℕ). codes "contract " ++ r)
    (four_words (output_text a.number) (decimal a.contract) (path_text a.position) (decimal a.balance) newline)

offer_text : (e : Event) → offer_line e ≡ said_line (line.offer e) ++ newline
offer_text e = refl

secret_text : (k : ℕ) (a x : List ℕ) (b : Bool) (n : Option (Option ℕ))
    → secret_line k a x b n ≡ text_of (map (λ y. line.secret y) (secret_if k a x b n))
secret_text k a x b None = refl
secret_text k a x b (Some n) =
    ap (λ (r : List ℕ). codes "secret " ++ r)
    (append_assoc (decimal k) (32 ∷ a) (32 ∷ (x ++ (32 ∷ (length_text n ++ (32 ∷ (shown_word b ++ newline))))))
    ∙ five_words (decimal k) a x (length_text n) (shown_word b) newline)
    ∙ sym (append-nil (said_line (line.secret (record { contract = k; party = a; name = x; length = n; revealed = b })) ++ newline))

map_append : {A B : Type 0} (f : A → B) (xs ys : List A) → map f (xs ++ ys) ≡ map f xs ++ map f ys
map_append f [] ys = refl
map_append f (x ∷ xs) ys = ap (λ (r : List _). f x ∷ r) (map_append f xs ys)

abbrev as_secrets : List ShownSecret → List Said
as_secrets xs = map (λ y. line.secret y) xs

both_secrets : (xs ys : List ShownSecret) → text_of (as_secrets xs) ++ text_of (as_secrets ys) ≡ text_of (as_secrets (xs ++ ys))
both_secrets xs ys =
    sym (text_append (as_secrets xs) (as_secrets ys)) ∙ ap text_of (sym (map_append (λ (y : ShownSecret). line.secret y) xs ys))

contract_secrets : (g : Configuration) (k : ℕ) (xs : List (List ℕ × List ℕ))
    → flat_map (secret_line_of g k) xs ≡ text_of (as_secrets (flat_map (secret_of g k) xs))
contract_secrets g k [] = refl
contract_secrets g k (x ∷ xs) =
    (λ i. secret_text k (x.1) (x.0) (is_revealed g.revealed k (x.1) (x.0))
    (length_at g.committed k (x.1) (x.0)) i ++ contract_secrets g k xs i)
    ∙ both_secrets (secret_of g k x) (flat_map (secret_of g k) xs)

all_secrets : (g : Configuration) (k : ℕ) (cs : List Advert) → secret_lines g k cs ≡ text_of (as_secrets (secrets_from g k cs))
all_secrets g k [] = refl
all_secrets g k (c ∷ cs) =
    (λ i. contract_secrets g k (secrets c.pre) i ++ all_secrets g (k + 1) cs i)
    ∙ both_secrets (flat_map (secret_of g k) (secrets c.pre)) (secrets_from g (k + 1) cs)

end_text_of : (tip : ℕ) (live : List (ℕ × ℕ)) (g : Configuration) (offers : List Event)
    → end_text tip live g offers ≡ text_of (end_lines tip live g offers)
end_text_of tip live g offers =
    let lives = map (λ o. line.live o) live in
    let deposits = map (λ d. line.deposit d) g.deposits in
    let contracts = map (λ a. line.contract a) g.active in
    let secrets = as_secrets (secrets_from g 0 g.contracts) in
    let offered = map (λ e. line.offer e) offers in
    let last : secret_lines g 0 g.contracts ++ flat_map offer_line offers ≡ text_of (secrets ++ offered) =
    (λ i. all_secrets g 0 g.contracts i ++ text_map (λ e. line.offer e) offer_line offer_text offers i)
    ∙ sym (text_append secrets offered) in
    let active : flat_map contract_line g.active ++ (secret_lines g 0 g.contracts ++ flat_map offer_line offers)
    ≡ text_of (contracts ++ (secrets ++ offered)) =
    (λ i. text_map (λ a. line.contract a) contract_line contract_text g.active i ++ last i)
    ∙ sym (text_append contracts (secrets ++ offered)) in
    let owned : flat_map deposit_line g.deposits ++
    (flat_map contract_line g.active ++ (secret_lines g 0 g.contracts ++ flat_map offer_line offers))
    ≡ text_of (deposits ++ (contracts ++ (secrets ++ offered))) =
    (λ i. text_map (λ d. line.deposit d) deposit_line deposit_text g.deposits i ++ active i)
    ∙ sym (text_append deposits (contracts ++ (secrets ++ offered))) in
    let rest = deposits ++ (contracts ++ (secrets ++ offered)) in
    let timed : codes "time " ++ (decimal g.time ++ (newline ++ (flat_map deposit_line g.deposits
    ++ (flat_map contract_line g.active ++ (secret_lines g 0 g.contracts ++ flat_map offer_line offers)))))
    ≡ text_of (line.time g.time ∷ rest) =
    ap (λ (r : List ℕ). codes "time " ++ (decimal g.time ++ (newline ++ r))) owned
    ∙ ap (λ (r : List ℕ). codes "time " ++ r) (sym (append_assoc (decimal g.time) newline (text_of rest))) in
    let behind : List Said = lives ++ (line.time g.time ∷ rest) in
    let alive = (λ i. text_map (λ o. line.live o) live_line live_text live i ++ timed i)
    ∙ sym (text_append lives (line.time g.time ∷ rest)) in
    ap (λ (r : List ℕ). codes "end" ++ (newline ++ (codes "tip " ++ (decimal tip ++ (newline ++ r))))) alive
    ∙ ap (λ (r : List ℕ). codes "end" ++ (newline ++ (codes "tip " ++ r))) (sym (append_assoc (decimal tip) newline (text_of behind)))

-- ---- the whole text

guessed_text : (party name : List ℕ) → guessed_line party name ≡ text_of (line.guessed party name ∷ [])
guessed_text party name =
    ap (λ (r : List ℕ). codes "guessed " ++ r) (two_words party name newline)
    ∙ sym (append-nil (said_line (line.guessed party name) ++ newline))

collided_text : (earlier later : List ℕ) → collided_line earlier later ≡ text_of (line.collided earlier later ∷ [])
collided_text earlier later =
    ap (λ (r : List ℕ). codes "collided " ++ r) (two_words (hex_text earlier) (hex_text later) newline)
    ∙ sym (append-nil (said_line (line.collided earlier later) ++ newline))

ending_text_of : (i : ℕ) (end : Ending) → ending_text i end ≡ text_of (ending_lines i end)
ending_text_of i (whole tip live g offers) = end_text_of tip live g offers
ending_text_of i (guessed e party name) = λ j. event_text_of i e j ++ guessed_text party name j
ending_text_of i (collided None earlier later) = collided_text earlier later
ending_text_of i (collided (Some e) earlier later) = λ j. event_text_of i e j ++ collided_text earlier later j

run_text_of : (deposits : List (List ℕ × ℕ)) (entries : List Entry) (end : Ending)
    → start_lines 0 deposits ++ (entries_text 1 entries ++ ending_text (length entries + 1) end) ≡ text_of (run_lines deposits entries end)
run_text_of deposits entries end =
    let last = ending_lines (length entries + 1) end in
    (λ j. starts_text 0 deposits j ++ (entries_text_of 1 entries j ++ ending_text_of (length entries + 1) end j))
    ∙ (ap (λ (r : List ℕ). text_of (starts 0 deposits) ++ r) (sym (text_append (entries_lines 1 entries) last))
    ∙ sym (text_append (starts 0 deposits) (entries_lines 1 entries ++ last)))

pub report_lined : (deposits : List (List ℕ × ℕ)) (entries : List Entry) (end : Ending)
    → report_text deposits entries end ≡ text_of (report_lines deposits entries end)
report_lined deposits entries (whole tip live g offers) = run_text_of deposits entries (whole tip live g offers)
report_lined deposits entries (guessed e party name) = run_text_of deposits entries (guessed e party name)
report_lined deposits entries (collided None earlier later) = collided_text earlier later
report_lined deposits entries (collided (Some e) earlier later) = run_text_of deposits entries (collided (Some e) earlier later)
