-- Test vectors of the generator, whose figures were computed apart by the published constants.
use Rattle.std.proofs.Common.{◌≡◌, [], ◌∷◌, refl}
use Rattle.std.specs.Prelude.{codes}
use Rattle.std.specs.Fmt.{digits}
use Rattle.spec_run.specs.declared.event.Event.TheVariants as events
use Rattle.spec_text.specs.Canonical.{advert_text}
use Rattle.spec_text.specs.Generator.{drawn, next_state, Generated, generated_secrets, generated_advert, gifts, begun, taken}

-- the first three draws from 7
pub first_draws : drawn (next_state 7) ∷ drawn (next_state (next_state 7)) ∷ drawn (next_state (next_state (next_state 7))) ∷ []
    ≡ 1059165278 ∷ 2052263231 ∷ 1946856753 ∷ []
first_draws = refl

-- the secret of size 1 from 7: its length, its bytes, and the state after it
abbrev pub first_secret : Generated
first_secret = (
  15,
  1 ∷ 63 ∷ 49 ∷ 145 ∷ 233 ∷ 3 ∷ 232 ∷ 20 ∷ 219 ∷ 118 ∷ 3 ∷ 179 ∷ 64 ∷ 112 ∷ 221 ∷ 162 ∷ 253 ∷ 115 ∷ 44 ∷ 159 ∷ 216 ∷ 161
      ∷ 54 ∷ 50 ∷ 93 ∷ 112 ∷ 88 ∷ 217 ∷ 197 ∷ 112 ∷ 232 ∷ [],
)

pub secret_from_seven : generated_secrets 7 1 ≡ (first_secret ∷ [], 4279949960044159288)
secret_from_seven = refl

pub contract_from_seven : advert_text (generated_advert (first_secret ∷ [])) ≡ codes "{A:! 1000000 @ x | B:! 0 @ y | A: secret a1} (reveal a1 if |a1| = 15 . withdraw A + after 10 : withdraw B)"
unfolding digits
contract_from_seven = refl

-- the first three gifts of size 1 from 7
pub gifts_from_seven : (gifts 3 (taken (begun 4279949960044159288))).0 ≡ events.Give (codes "B") (2 ∷ []) ((codes "B", 348975517) ∷ (codes "B", 651024483) ∷ []) ∷ events.Give (codes "B") (5 ∷ []) ((codes "B", 264077832) ∷ (codes "B", 84897685) ∷ []) ∷ events.Give (codes "B") (6 ∷ []) ((codes "B", 322627907) ∷ (codes "B", 328396576) ∷ []) ∷ []
gifts_from_seven = refl
