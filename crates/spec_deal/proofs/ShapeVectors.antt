-- Test vectors of the shape of signatures, each by computation alone.
use Rattle.std.proofs.Common.{◌≡◌, ℕ, List, [], ◌++◌, Bool, true, false, refl}
use Rattle.std.specs.Prelude.{codes}
use Rattle.spec_data.specs.Digits.{read_hex}
use Rattle.spec_deal.specs.Finished.{bytes_or_none}
use Rattle.spec_deal.specs.Shape.{is_strict}

-- whether the signature with these digits has the shape
abbrev pub strict : List ℕ → Bool
strict digits = is_strict (bytes_or_none (read_hex digits))

pub signed : strict (codes "304402200a7619223b285d7242afa2ffe641857891f83e405eea869f0b4754ff4cda2ef6"
    ++ codes "022016d59c083345f0368658d8c34881404e5c9009f4663a8acbe0e853e25cf443ab01") ≡ true
signed = refl

pub signed_with_a_long_r : strict (codes "3045022100f33869dc3f82e06cdabdd042dbf8ccc7089d9e010fcd231423810ccb6a60e7"
    ++ codes "0a02204a50ae563ad11af7e6d07af3a2e33e6605852fb9017334c41c2a8b40f3b2be1201") ≡ true
signed_with_a_long_r = refl

pub other_hash_type : strict (codes "30440220240e1b686e26c227b1a1b730bb1f226ca09eb0094c5eca26cb1ea6afe0326c28"
    ++ codes "02204c00ac3b23178946bcc873f14ba1f71436f43c3501b0f1965af7f92fc1346c1002") ≡ false
other_hash_type = refl

pub high_s : strict (codes "30450220240e1b686e26c227b1a1b730bb1f226ca09eb0094c5eca26cb1ea6afe0326c28"
    ++ codes "022100b3ff53c4dce876b943378c0eb45e08ea83baa0b1ad97aea564da655d0f01d53101") ≡ false
high_s = refl

pub signature_of_the_model : strict (codes "023c24fce1010225fd96c5407ef8f06e3a5bae1e6b8f3449ef2085634b3e148b29c008d9"
    ++ codes "76de0d4079d9a6363008d5900aaafb209b2dbfcc744809ce0d7decc45701") ≡ false
signature_of_the_model = refl

pub least_numbers : strict (codes "300602010102010101") ≡ true
least_numbers = refl

pub no_byte_too_many : strict (codes "30060201010201010100") ≡ false
no_byte_too_many = refl

pub no_zero_in_prefix : strict (codes "30070202000102010101") ≡ false
no_zero_in_prefix = refl

pub no_negative_number : strict (codes "300602018102010101") ≡ false
no_negative_number = refl

pub nothing : strict [] ≡ false
nothing = refl
