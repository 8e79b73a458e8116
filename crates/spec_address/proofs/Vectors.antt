-- Test vectors of addresses, most of them from BIP 173 and BIP 350, each by computation alone.
use Rattle.std.proofs.Common.{◌≡◌, ℕ, List, [], ◌∷◌, ◌++◌, length, true, false, Option, Some, None, refl}
use Rattle.std.specs.Prelude.{codes, filter, replicate, unwrap_or, ◌&&◌, ◌||◌}
use Rattle.std.specs.List.{range_with_len}
use Rattle.std.specs.Option.{option_map_or}
use Rattle.spec_data.specs.Digits.{read_hex}
use Rattle.spec_address.specs.Address.{is_hrp, is_hrp_character, pushes_version, is_program_size, is_witness_output, address, values_of, read_address}
use Rattle.spec_address.specs.Checksum.{next_state, checksum, extended, mark, check_values}
use Rattle.spec_address.specs.Groups.{group_at, byte_at}

-- the script with these digits
abbrev script : List ℕ → List ℕ
script digits = unwrap_or (read_hex digits) []

-- what a word is read as, on the main network and on the test network
abbrev main : List ℕ → Option (List ℕ)
main word = read_address (codes "bc") word

abbrev test : List ℕ → Option (List ℕ)
test word = read_address (codes "tb") word

-- the checksum of a whole address
abbrev whole : List ℕ → List ℕ → ℕ
whole hrp word = checksum (extended hrp ++ values_of hrp word)

-- ---- good ones

pub version_0 : main (codes "BC1QW508D6QEJXTDG4Y5R3ZARVARY0C5XW7KV8F3T4") ≡ Some (script (codes "0014751e76e8199196d454941c45d1b3a323f1433bd6"))
unfolding address read_address check_values next_state group_at byte_at
version_0 = refl

pub version_0_of_32_bytes : test (codes "tb1qrp33g0q5c5txsp9arysrx4k6zdkfs4nce4xj0gdcccefvpysxf3q0sl5k7")
    ≡ Some (script (codes "00201863143c14c5166804bd19203356da136c985678cd4d27a1b8c6329604903262"))
unfolding address read_address check_values next_state group_at byte_at
version_0_of_32_bytes = refl

pub version_1 : main (codes "bc1p0xlxvlhemja6c4dqv22uapctqupfhlxm9h8z3k2e72q4k9hcz7vqzk5jj0")
    ≡ Some (script (codes "512079be667ef9dcbbac55a06295ce870b07029bfcdb2dce28d959f2815b16f81798"))
unfolding address read_address check_values next_state group_at byte_at
version_1 = refl

pub version_2 : main (codes "bc1zw508d6qejxtdg4y5r3zarvaryvaxxpcs") ≡ Some (script (codes "5210751e76e8199196d454941c45d1b3a323"))
unfolding address read_address check_values next_state group_at byte_at
version_2 = refl

pub version_16 : main (codes "BC1SW50QGDZ25J") ≡ Some (script (codes "6002751e"))
unfolding address read_address check_values next_state group_at byte_at
version_16 = refl

-- ---- what is written of scripts

pub written_of_version_0 : address (codes "bc") (script (codes "0014751e76e8199196d454941c45d1b3a323f1433bd6"))
    ≡ Some (codes "bc1qw508d6qejxtdg4y5r3zarvary0c5xw7kv8f3t4")
unfolding address read_address check_values next_state group_at byte_at
written_of_version_0 = refl

pub written_of_version_1 : address (codes "bc") (script (codes "5128751e76e8199196d454941c45d1b3a323f1433bd6751e76e8199196d454941c45d1b3a323f1433bd6"))
    ≡ Some (codes "bc1pw508d6qejxtdg4y5r3zarvary0c5xw7kw508d6qejxtdg4y5r3zarvary0c5xw7kt5nd6y")
unfolding address read_address check_values next_state group_at byte_at
written_of_version_1 = refl

pub longest : option_map_or length (address (replicate 18 97) (0x51 ∷ 40 ∷ replicate 40 255)) 0 ≡ 90
unfolding address read_address check_values next_state group_at byte_at
longest = refl

pub too_long : address (replicate 19 97) (0x51 ∷ 40 ∷ replicate 40 255) ≡ None
unfolding address read_address check_values next_state group_at byte_at
too_long = refl

pub no_address_of_a_hash : address (codes "bc") (script (codes "76a914751e76e8199196d454941c45d1b3a323f1433bd688ac")) ≡ None
unfolding address read_address check_values next_state group_at byte_at
no_address_of_a_hash = refl

-- ---- scripts of witness outputs

pub operations_of_versions : filter pushes_version (range_with_len 0 256) ≡ 0 ∷ range_with_len 0x51 16
unfolding address read_address check_values next_state group_at byte_at
operations_of_versions = refl

pub sizes_of_version_0 : filter (is_program_size 0) (range_with_len 0 256) ≡ 20 ∷ 32 ∷ []
unfolding address read_address check_values next_state group_at byte_at
sizes_of_version_0 = refl

pub sizes_of_version_1 : filter (is_program_size 1) (range_with_len 0 256) ≡ range_with_len 2 39
unfolding address read_address check_values next_state group_at byte_at
sizes_of_version_1 = refl

pub another_size : (is_witness_output (script (codes "5103751e")) || is_witness_output (script (codes "5102751e76"))) ≡ false
unfolding address read_address check_values next_state group_at byte_at
another_size = refl

pub no_byte : is_witness_output (0x51 ∷ 2 ∷ 0x75 ∷ 256 ∷ []) ≡ false
unfolding address read_address check_values next_state group_at byte_at
no_byte = refl

-- ---- bad ones

pub other_hrp : main (codes "tc1p0xlxvlhemja6c4dqv22uapctqupfhlxm9h8z3k2e72q4k9hcz7vq5zuyut") ≡ None
unfolding address read_address check_values next_state group_at byte_at
other_hrp = refl

pub other_network : main (codes "tb1pqqqqp399et2xygdj5xreqhjjvcmzhxw4aywxecjdzew6hylgvsesf3hn0c") ≡ None
unfolding address read_address check_values next_state group_at byte_at
other_network = refl

pub wrong_last_letter : main (codes "bc1qw508d6qejxtdg4y5r3zarvary0c5xw7kv8f3t5") ≡ None
unfolding address read_address check_values next_state group_at byte_at
wrong_last_letter = refl

pub mark_of_version_1_for_version_0 : main (codes "bc1qw508d6qejxtdg4y5r3zarvary0c5xw7kemeawh") ≡ None
unfolding address read_address check_values next_state group_at byte_at
mark_of_version_1_for_version_0 = refl

pub mark_of_version_0_for_version_1 : main (codes "bc1p0xlxvlhemja6c4dqv22uapctqupfhlxm9h8z3k2e72q4k9hcz7vqh2y7hd") ≡ None
unfolding address read_address check_values next_state group_at byte_at
mark_of_version_0_for_version_1 = refl

pub mark_of_version_0_for_version_16 : main (codes "BC1S0XLXVLHEMJA6C4DQV22UAPCTQUPFHLXM9H8Z3K2E72Q4K9HCZ7VQ54WELL") ≡ None
unfolding address read_address check_values next_state group_at byte_at
mark_of_version_0_for_version_16 = refl

pub no_letter : main (codes "bc1p38j9r5y49hruaue7wxjce0updqjuyyx0kh56v8s25huc6995vvpql3jow4") ≡ None
unfolding address read_address check_values next_state group_at byte_at
no_letter = refl

pub version_17 : main (codes "BC130XLXVLHEMJA6C4DQV22UAPCTQUPFHLXM9H8Z3K2E72Q4K9HCZ7VQ7ZWS8R") ≡ None
unfolding address read_address check_values next_state group_at byte_at
version_17 = refl

pub program_of_one_byte : main (codes "bc1pw5dgrnzv") ≡ None
unfolding address read_address check_values next_state group_at byte_at
program_of_one_byte = refl

pub program_of_41_bytes : main (codes "bc1p0xlxvlhemja6c4dqv22uapctqupfhlxm9h8z3k2e72q4k9hcz7v8n0nx0muaewav253zgeav") ≡ None
unfolding address read_address check_values next_state group_at byte_at
program_of_41_bytes = refl

pub program_of_16_bytes_for_version_0 : main (codes "BC1QR508D6QEJXTDG4Y5R3ZARVARYV98GJ9P") ≡ None
unfolding address read_address check_values next_state group_at byte_at
program_of_16_bytes_for_version_0 = refl

pub no_version : main (codes "bc1gmk9yu") ≡ None
unfolding address read_address check_values next_state group_at byte_at
no_version = refl

pub a_group_behind_the_program : main (codes "bc1p0xlxvlhemja6c4dqv22uapctqupfhlxm9h8z3k2e72q4k9hcz7v07qwwzcrf") ≡ None
unfolding address read_address check_values next_state group_at byte_at
a_group_behind_the_program = refl

pub both_cases : test (codes "tb1p0xlxvlhemja6c4dqv22uapctqupfhlxm9h8z3k2e72q4k9hcz7vq47Zagq") ≡ None
unfolding address read_address check_values next_state group_at byte_at
both_cases = refl

pub one_capital : test (codes "tb1qrp33g0q5c5txsp9arysrx4k6zdkfs4nce4xj0gdcccefvpysxf3q0sL5k7") ≡ None
unfolding address read_address check_values next_state group_at byte_at
one_capital = refl

pub capitals_before_the_letters_alone : main (codes "BC1qw508d6qejxtdg4y5r3zarvary0c5xw7kv8f3t4") ≡ None
unfolding address read_address check_values next_state group_at byte_at
capitals_before_the_letters_alone = refl

pub capitals_among_the_letters_alone : main (codes "bc1QW508D6QEJXTDG4Y5R3ZARVARY0C5XW7KV8F3T4") ≡ None
unfolding address read_address check_values next_state group_at byte_at
capitals_among_the_letters_alone = refl

pub bits_behind_a_program : test (codes "tb1p0xlxvlhemja6c4dqv22uapctqupfhlxm9h8z3k2e72q4k9hcz7vpggkg4j") ≡ None
unfolding address read_address check_values next_state group_at byte_at
bits_behind_a_program = refl

pub bits_behind_a_program_of_version_0 : test (codes "tb1qrp33g0q5c5txsp9arysrx4k6zdkfs4nce4xj0gdcccefvpysxf3pjxtptv") ≡ None
unfolding address read_address check_values next_state group_at byte_at
bits_behind_a_program_of_version_0 = refl

pub nothing : main [] ≡ None
unfolding address read_address check_values next_state group_at byte_at
nothing = refl

-- ---- the checksum, and human-readable parts

pub checksum_of_version_0 : whole (codes "bc") (codes "bc1qw508d6qejxtdg4y5r3zarvary0c5xw7kv8f3t4") ≡ mark 0
unfolding address read_address check_values next_state group_at byte_at
checksum_of_version_0 = refl

pub checksum_of_version_16 : whole (codes "bc") (codes "bc1sw50qgdz25j") ≡ mark 16
unfolding address read_address check_values next_state group_at byte_at
checksum_of_version_16 = refl

pub checksum_of_a_sign : whole (codes "?") (codes "?1ezyfcl") ≡ mark 0
unfolding address read_address check_values next_state group_at byte_at
checksum_of_a_sign = refl

pub later_checksum_of_a_sign : whole (codes "?") (codes "?1v759aa") ≡ mark 1
unfolding address read_address check_values next_state group_at byte_at
later_checksum_of_a_sign = refl

pub networks : (is_hrp (codes "bc") && (is_hrp (codes "tb") && is_hrp (codes "bcrt"))) ≡ true
unfolding address read_address check_values next_state group_at byte_at
networks = refl

pub no_capitals : is_hrp (codes "BCRT") ≡ false
unfolding address read_address check_values next_state group_at byte_at
no_capitals = refl

pub hrp_characters : filter is_hrp_character (range_with_len 0 256) ≡ range_with_len 33 32 ++ range_with_len 91 36
unfolding address read_address check_values next_state group_at byte_at
hrp_characters = refl

pub hrp_of_1 : is_hrp (codes "!") ≡ true
unfolding address read_address check_values next_state group_at byte_at
hrp_of_1 = refl

pub hrp_of_18 : is_hrp (replicate 18 126) ≡ true
unfolding address read_address check_values next_state group_at byte_at
hrp_of_18 = refl

pub hrp_of_19 : is_hrp (replicate 19 126) ≡ false
unfolding address read_address check_values next_state group_at byte_at
hrp_of_19 = refl

pub no_hrp : is_hrp [] ≡ false
unfolding address read_address check_values next_state group_at byte_at
no_hrp = refl
