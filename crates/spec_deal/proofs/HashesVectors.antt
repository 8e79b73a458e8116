-- Worked hashes of secrets, each by computation alone.
use Rattle.std.proofs.Common.{◌≡◌, ℕ, List, [], ◌∷◌, ◌++◌, refl}
use Rattle.std.specs.Prelude.{codes}
use Rattle.std.specs.Fmt.{digits}
use Rattle.spec_data.specs.Digits.{hex_text, read_hex}
use Rattle.spec_deal.specs.Finished.{bytes_or_none}
use Rattle.spec_deal.specs.HashesText.{read_offered, hashes_text}
use Rattle.spec_deal.specs.RefusedText.{secrets_refused_line}
use Rattle.spec_deal.specs.SecretFile.{shows, refused, collided}
use Rattle.spec_deal.proofs.FileVectors.{line, weigh, pair}

abbrev told : List ℕ → List ℕ
told text = elim (read_offered weigh pair text) [
  | shows strings ↦ hashes_text weigh strings
  | refused fault ↦ secrets_refused_line fault
  | collided earlier later ↦ codes "collided"
]

abbrev digest_text : List ℕ → List ℕ
digest_text word = hex_text (weigh (bytes_or_none (read_hex word)))

-- of the bytes, and not of their digits
pub both_hashes : told (line (codes "secret b 00112233445566778899aabbccddeeff0102") (line (codes "secret a 00112233445566778899aabbccddeeff") []))
    ≡
    line (codes "hash b " ++ digest_text (codes "00112233445566778899aabbccddeeff0102")) (
    line (codes "hash a " ++ digest_text (codes "00112233445566778899aabbccddeeff")) [])
both_hashes = refl

pub too_short : told (line (codes "secret a 00112233445566778899aabbccddee") []) ≡ line (codes "secrets refused line 1 length") []
unfolding digits
too_short = refl

pub given_twice :
    told (line (codes "secret a 00112233445566778899aabbccddeeff") (line (codes "secret a 00112233445566778899aabbccddeeff") []))
    ≡ line (codes "secrets refused line 2 repeated 1") []
unfolding digits
given_twice = refl

pub no_secret : told (line (codes "secret c 00112233445566778899aabbccddeeff") []) ≡ line (codes "secrets refused line 1 foreign") []
unfolding digits
no_secret = refl
