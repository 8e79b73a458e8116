-- What is printed of a run that is played.
use Rattle.std.specs.Prelude.{ℕ, ◌+◌, List, [], ◌∷◌, ◌++◌, flat_map, length, Bool, true, false, Option, Some, None, codes}
use Rattle.std.specs.Fmt.{decimal}
use Rattle.spec_terms.specs.Advert.{Advert}
use Rattle.spec_terms.specs.Precondition.{secrets}
use Rattle.spec_bitcoin.specs.Keys.{path_text}
use Rattle.spec_calculus.specs.declared.parts.Deposit.{Deposit}
use Rattle.spec_calculus.specs.declared.parts.ActiveContract.{ActiveContract}
use Rattle.spec_calculus.specs.Configuration.{Configuration}
use Rattle.spec_calculus.specs.Branches.{length_at, is_revealed}
use Rattle.spec_run.specs.declared.event.Event.{Event}
use Rattle.spec_text.specs.declared.entry.Entry.{Entry}
use Rattle.spec_data.specs.Digits.{hex_text}
use Rattle.spec_text.specs.RunText.{newline, output_text, event_text, contract_party_text}
use Rattle.spec_text.specs.OutcomeText.{outcome_text}
use Rattle.spec_text.specs.StepText.{owner_text, length_text, step_lines}

-- ---- the beginning

-- `start #n A v` for each deposit of the header, the numbers from n on
abbrev pub start_lines : ℕ → List (List ℕ × ℕ) → List ℕ
start_lines n [] = []
start_lines n (d ∷ ds) =
    codes "start " ++ (output_text n ++ (codes " " ++ (d.0 ++ (codes " " ++ (decimal d.1 ++ (newline ++ start_lines (n + 1) ds))))))

-- ---- the events

-- `event I LINE`
abbrev pub event_line : ℕ → Event → List ℕ
event_line i event = codes "event " ++ (decimal i ++ (codes " " ++ (event_text event ++ newline)))

-- an event, its outcome and its steps
abbrev pub entry_text : ℕ → Entry → List ℕ
entry_text i e = event_line i e.event ++ (outcome_text e.outcome ++ (newline ++ step_lines e.outcome e.steps))

-- entries, numbered from i on
abbrev pub entries_text : ℕ → List Entry → List ℕ
entries_text i [] = []
entries_text i (e ∷ es) = entry_text i e ++ entries_text (i + 1) es

-- ---- the end

-- `live #n v`
abbrev pub live_line : ℕ × ℕ → List ℕ
live_line o = codes "live " ++ (output_text o.0 ++ (codes " " ++ (decimal o.1 ++ newline)))

-- `deposit #n OWNER v`
abbrev pub deposit_line : Deposit → List ℕ
deposit_line d =
    codes "deposit " ++ (output_text d.number ++ (codes " " ++ (owner_text d.owner ++ (codes " " ++ (decimal d.value ++ newline)))))

-- `contract #n K POSITION v`
abbrev pub contract_line : ActiveContract → List ℕ
contract_line a =
    codes "contract "
    ++ (output_text a.number ++ (codes " "
    ++ (decimal a.contract ++ (codes " " ++ (path_text a.position ++ (codes " " ++ (decimal a.balance ++ newline)))))))

abbrev pub shown_word : Bool → List ℕ
shown_word true = codes "revealed"
shown_word false = codes "hidden"

-- `secret K A a N revealed` or `hidden`, nothing where the secret isn't committed
abbrev pub secret_line : ℕ → List ℕ → List ℕ → Bool → Option (Option ℕ) → List ℕ
secret_line k a s revealed None = []
secret_line k a s revealed (Some length) =
    codes "secret "
    ++ (contract_party_text k a
    ++ (codes " " ++ (s ++ (codes " " ++ (length_text length ++ (codes " " ++ (shown_word revealed ++ newline)))))))

-- the line of a secret of contract k; secrets have their party behind their name
abbrev pub secret_line_of : Configuration → ℕ → List ℕ × List ℕ → List ℕ
secret_line_of g k s = secret_line k (s.1) (s.0) (is_revealed g.revealed k (s.1) (s.0)) (length_at g.committed k (s.1) (s.0))

-- the lines of the committed secrets, by contract from number k on, and by precondition
abbrev pub secret_lines : Configuration → ℕ → List Advert → List ℕ
secret_lines g k [] = []
secret_lines g k (c ∷ cs) = flat_map (secret_line_of g k) (secrets c.pre) ++ secret_lines g (k + 1) cs

abbrev pub offer_line : Event → List ℕ
offer_line event = codes "offer " ++ (event_text event ++ newline)

-- the end of a run that wasn't halted: the tip, the live outputs with their values, the last configuration, and
-- the events of the offers
abbrev pub end_text : ℕ → List (ℕ × ℕ) → Configuration → List Event → List ℕ
end_text tip live g offers =
    codes "end" ++ (newline
    ++ (codes "tip " ++ (decimal tip ++ (newline
    ++ (flat_map live_line live
    ++ (codes "time " ++ (decimal g.time ++ (newline
    ++ (flat_map deposit_line g.deposits
    ++ (flat_map contract_line g.active
    ++ (secret_lines g 0 g.contracts
    ++ flat_map offer_line offers)))))))))))

-- ---- how a run ends

pub data Ending : Type 0 where
  -- all events were played
  whole : (tip : ℕ) → (live : List (ℕ × ℕ)) → (configuration : Configuration) → (offers : List Event) → Ending
  -- this event guesses a secret
  guessed : (event : Event) → (party : List ℕ) → (secret : List ℕ) → Ending
  -- the opening or an event collides; the earlier string first
  collided : (event : Option Event) → (earlier : List ℕ) → (later : List ℕ) → Ending

abbrev pub guessed_line : List ℕ → List ℕ → List ℕ
guessed_line party secret = codes "guessed " ++ (party ++ (codes " " ++ (secret ++ newline)))

abbrev pub collided_line : List ℕ → List ℕ → List ℕ
collided_line earlier later = codes "collided " ++ (hex_text earlier ++ (codes " " ++ (hex_text later ++ newline)))

-- the end behind the start lines and so many entries as come before event i
abbrev pub ending_text : ℕ → Ending → List ℕ
ending_text i (whole tip live g offers) = end_text tip live g offers
ending_text i (guessed event party secret) = event_line i event ++ guessed_line party secret
ending_text i (collided None earlier later) = collided_line earlier later
ending_text i (collided (Some event) earlier later) = event_line i event ++ collided_line earlier later

-- what is printed of a run; a collision of the opening is printed alone
abbrev pub report_text : List (List ℕ × ℕ) → List Entry → Ending → List ℕ
report_text deposits entries (whole tip live g offers) =
    start_lines 0 deposits ++ (entries_text 1 entries ++ ending_text (length entries + 1) (whole tip live g offers))
report_text deposits entries (guessed event party secret) =
    start_lines 0 deposits ++ (entries_text 1 entries ++ ending_text (length entries + 1) (guessed event party secret))
report_text deposits entries (collided None earlier later) = collided_line earlier later
report_text deposits entries (collided (Some event) earlier later) =
    start_lines 0 deposits ++ (entries_text 1 entries ++ ending_text (length entries + 1) (collided (Some event) earlier later))
