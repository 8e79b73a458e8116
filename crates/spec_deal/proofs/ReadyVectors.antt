-- Worked answers to whoever is about to sign, each by computation alone.
use Rattle.std.proofs.Common.{◌≡◌, ℕ, List, [], ◌∷◌, ◌++◌, refl}
use Rattle.std.specs.Prelude.{codes, map, filter, Bool, true, false}
use Rattle.std.specs.Fmt.{digits}
use Rattle.spec_bitcoin.specs.Keys.{label_text}
use Rattle.spec_bitcoin.specs.Numbers.{item_of_number, signed_bytes}
use Rattle.spec_bitcoin.specs.Spelling.{stripped, marked, compact}
use Rattle.spec_compiler.specs.Keyed.Instance.{position_script}
use Rattle.spec_tool.specs.Keyed.Listed.{listed, which_text}
use Rattle.spec_deal.specs.Given.{endorsements}
use Rattle.spec_deal.specs.ReadyText.{is_ready, ready_text, is_endorsed_by}
use Rattle.spec_deal.proofs.FileVectors.{line, weigh, bet, put, A, B}
use Rattle.spec_deal.proofs.SignatureVectors.{setting, endorsed}
use Rattle.spec_deal.proofs.SignatureVectors as plain
use Rattle.spec_deal.proofs.WalletVectors as wallets

pub all_verified : ready_text weigh plain.keys (setting bet) (endorsed bet) []
    ≡
    line (codes "warnings 0") (
    line (codes "init may be signed") [])
unfolding digits label_text stripped marked compact position_script item_of_number signed_bytes
all_verified = refl

pub bet_is_ready : is_ready weigh plain.keys (setting bet) (endorsed bet) ≡ true
unfolding digits label_text stripped marked compact position_script item_of_number signed_bytes
bet_is_ready = refl

pub one_unverified : ready_text weigh wallets.keys (setting put) (wallets.sign (endorsements weigh wallets.keys (setting put))) []
    ≡
    line (codes "warnings 0") (
    line (codes "unverified r.0 1 W:z endorse") (
    line (codes "init may be signed once the unverified are checked") []))
unfolding digits label_text stripped marked compact position_script item_of_number signed_bytes
one_unverified = refl

pub put_is_not_ready : is_ready weigh wallets.keys (setting put) (wallets.sign (endorsements weigh wallets.keys (setting put))) ≡ false
unfolding digits label_text stripped marked compact position_script item_of_number signed_bytes
put_is_not_ready = refl

-- the transactions that a party of bet endorses
abbrev endorsed_by : List ℕ → List (List ℕ)
endorsed_by party = map (λ l. which_text l.which) (filter (is_endorsed_by plain.keys bet party) (listed weigh plain.keys (setting bet)))

pub endorsed_by_a : endorsed_by A ≡ codes "r.0" ∷ codes "r.0.0" ∷ codes "r.1" ∷ []
unfolding digits label_text stripped marked compact position_script item_of_number signed_bytes
endorsed_by_a = refl

-- what B is asked for isn't among them
pub endorsed_by_b : endorsed_by B ≡ codes "r.0" ∷ codes "r.0.0" ∷ []
unfolding digits label_text stripped marked compact position_script item_of_number signed_bytes
endorsed_by_b = refl
