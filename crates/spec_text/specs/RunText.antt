-- The canonical lines of a run file: of each event, and of the header.
use Rattle.std.specs.Prelude.{ℕ, List, [], ◌∷◌, ◌++◌, flat_map, codes}
use Rattle.std.specs.Fmt.{decimal}
use Rattle.spec_bitcoin.specs.Keys.{label_text}
use Rattle.spec_run.specs.declared.event.Event.{Event}
use Rattle.spec_run.specs.declared.event.Event.TheVariants as events
use Rattle.spec_run.specs.declared.event.Run.{Run}
use Rattle.spec_run.specs.declared.header.Header.{Header}
use Rattle.spec_run.specs.declared.header.HeldSecret.{HeldSecret}
use Rattle.spec_data.specs.Digits.{hex_text}

abbrev pub newline : List ℕ
newline = 10 ∷ []

-- an output: `#` and its number
abbrev pub output_text : ℕ → List ℕ
output_text n = codes "#" ++ decimal n

-- ` #n` for each output
abbrev pub outputs_text : List ℕ → List ℕ
outputs_text ns = flat_map (λ n. codes " " ++ output_text n) ns

-- ` x=#n` for each binding
abbrev pub bindings_text : List (List ℕ × ℕ) → List ℕ
bindings_text bs = flat_map (λ b. codes " " ++ (b.0 ++ (codes "=" ++ output_text b.1))) bs

-- ` b=HEX` for each digest
abbrev pub digests_text : List (List ℕ × List ℕ) → List ℕ
digests_text ds = flat_map (λ d. codes " " ++ (d.0 ++ (codes "=" ++ hex_text d.1))) ds

-- ` B v` for each share
abbrev pub shares_text : List (List ℕ × ℕ) → List ℕ
shares_text ps = flat_map (λ p. codes " " ++ (p.0 ++ (codes " " ++ decimal p.1))) ps

-- a contract and a party
abbrev pub contract_party_text : ℕ → List ℕ → List ℕ
contract_party_text k a = decimal k ++ (codes " " ++ a)

-- the line of an event, without its end
abbrev pub event_text : Event → List ℕ
event_text (events.Advertise k bs) = codes "advertise " ++ (decimal k ++ bindings_text bs)
event_text (events.Commit k a ds) = codes "commit " ++ (contract_party_text k a ++ digests_text ds)
event_text (events.Endorse k a) = codes "endorse " ++ contract_party_text k a
event_text (events.Init k a) = codes "init " ++ contract_party_text k a
event_text (events.Authorise a n i) = codes "authorise " ++ (a ++ (codes " " ++ (output_text n ++ (codes " " ++ decimal i))))
event_text (events.Reveal k a s) = codes "reveal " ++ (contract_party_text k a ++ (codes " " ++ s))
event_text (events.Post bytes) = codes "post " ++ hex_text bytes
event_text (events.Sign b l d) = codes "sign " ++ (b ++ (codes " " ++ (label_text l ++ (codes " " ++ hex_text d))))
event_text (events.Give a inputs outputs) = codes "give " ++ (a ++ (outputs_text inputs ++ (codes " ->" ++ shares_text outputs)))
event_text (events.Append bytes) = codes "append " ++ hex_text bytes
event_text (events.FireInit k) = codes "fire init " ++ decimal k
event_text (events.Fire n i) = codes "fire " ++ (output_text n ++ (codes " " ++ decimal i))
event_text (events.Mine n) = codes "mine " ++ decimal n

-- ---- the header: parties, honest parties, secrets, deposits, and the line that ends it

abbrev pub party_text : List ℕ → List ℕ
party_text a = codes "party " ++ (a ++ newline)

abbrev pub honest_text : List ℕ → List ℕ
honest_text a = codes "honest " ++ (a ++ newline)

abbrev pub secret_text : HeldSecret → List ℕ
secret_text s = codes "secret " ++ (s.party ++ (codes " " ++ (s.name ++ (codes " " ++ (hex_text s.bytes ++ newline)))))

abbrev pub deposit_text : List ℕ × ℕ → List ℕ
deposit_text d = codes "deposit " ++ (d.0 ++ (codes " " ++ (decimal d.1 ++ newline)))

abbrev pub header_text : Header → List ℕ
header_text h =
    flat_map party_text h.parties
    ++ (flat_map honest_text h.honest
    ++ (flat_map secret_text h.secrets
    ++ (flat_map deposit_text h.deposits
    ++ (codes "--" ++ newline))))

-- a whole run file, in canonical lines
abbrev pub run_text : Run → List ℕ
run_text r = header_text r.header ++ flat_map (λ e. event_text e ++ newline) r.events
