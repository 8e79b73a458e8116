-- Test vectors of the run of an escrow: its rows, where the money is behind each, and what can be done.
use Rattle.std.proofs.Common.{◌≡◌, ℕ, List, [], ◌∷◌, refl, Some, None, Option}
use Rattle.std.specs.Prelude.{codes, map}
use Rattle.std.specs.Fmt.{digits}
use Rattle.spec_bitcoin.specs.Keys.{label_text}
use Rattle.spec_bitcoin.specs.Digests.{places_list, sequences_list, outputs_list, preimage}
use Rattle.spec_bitcoin.specs.Spelling.{stripped, marked, compact}
use Rattle.spec_bitcoin.specs.Meaning.{script_meaning}
use Rattle.spec_bitcoin.specs.Numbers.{number_of_item, signed_bytes, item_of_number}
use Rattle.spec_bitcoin.specs.Scripts.{ops_of}
use Rattle.spec_compiler.specs.Keyed.Instance.{position_script}
use Rattle.spec_page.specs.declared.event_row.Look.{Look}
use Rattle.spec_page.specs.declared.event_row.Look.TheVariants as looks
use Rattle.spec_page.specs.Stops.{Stop, stops}
use Rattle.spec_run.specs.declared.event.Event.{Event}
use Rattle.spec_run.specs.declared.event.Event.TheVariants as events
use Rattle.spec_page.proofs.Escrow.{setup, mediated, buyer, seller, mediator}

-- ---- rows

-- what a row says
abbrev Said : Type 0
Said = ℕ × ℕ × Look × List ℕ × List ℕ × Option (List ℕ)

abbrev said_by : Stop → Said
said_by s = (s.row.first, s.row.last, s.row.look, s.row.words, s.row.note, s.row.actor)

rows_of_escrow : map said_by (stops setup mediated)
    ≡ (0, 0, looks.Start, codes "the deposits", [], None)
    ∷ (1, 11, looks.Accepted, codes "advertise, commit, endorse, init, fire init", [], None)
    ∷ (12, 12, looks.Blocks, codes "1,000 blocks", codes "height 1,000", None)
    ∷ (13, 13, looks.Done, codes "Mediator agrees to r.2", [], Some mediator)
    ∷ (14, 14, looks.Accepted, codes "fire r.2", [], None)
    ∷ (15, 15, looks.Accepted, codes "fire r.2/0.0", [], None)
    ∷ (16, 16, looks.Done, codes "Mediator agrees to r.2/1.1", [], Some mediator)
    ∷ (17, 17, looks.Refused, codes "fire r.2/1.0", codes "refused, ScriptFalse 0: a signature or a secret is missing", None)
    ∷ (18, 18, looks.Accepted, codes "fire r.2/1.1", [], None)
    ∷ []
unfolding digits label_text stripped marked compact places_list sequences_list outputs_list preimage position_script script_meaning
    ops_of number_of_item signed_bytes item_of_number
rows_of_escrow = refl

-- ---- what can be done before a contract begins

-- two commit, and then all have; what is refused stands between
abbrev half_begun : List Event
half_begun =
    events.Advertise 0 ((codes "price", 0) ∷ (codes "s", 1) ∷ (codes "m", 2) ∷ [])
    ∷ events.Commit 0 buyer []
    ∷ events.Fire 9 0
    ∷ events.Commit 0 seller []
    ∷ events.Commit 0 mediator []
    ∷ events.Fire 9 1
    ∷ []

outlooks_before : map {B = List ℕ} (λ st. st.row.outlook) (stops setup half_begun)
    ≡ codes "advertise; waits for Buyer, Seller, Mediator"
    ∷ codes "Seller commits, Mediator commits; waits for Buyer, Seller, Mediator"
    ∷ codes "Seller commits, Mediator commits; waits for Buyer, Seller, Mediator"
    ∷ codes "Buyer signs, Seller signs, Mediator signs; waits for Buyer, Seller, Mediator"
    ∷ codes "Buyer signs, Seller signs, Mediator signs; waits for Buyer, Seller, Mediator"
    ∷ []
unfolding digits label_text stripped marked compact places_list sequences_list outputs_list preimage position_script script_meaning
    ops_of number_of_item signed_bytes item_of_number
outlooks_before = refl
