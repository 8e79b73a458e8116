-- The digests of the two examples of BIP 143 that sign with the hash type ALL by a key's hash: the standard's own transactions, scripts,
-- strings and digests. What SHA-256 makes of the eight strings of each stands in a table, since the kernel doesn't compute it.
use Rattle.std.proofs.Common.{◌≡◌, ℕ, List, [], ◌∷◌, ◌++◌, codes, refl}
use Rattle.std.specs.Map.{lookup}
use Rattle.std.specs.Option.{option_map_or}
use Rattle.std.specs.Str.{bytes_eq}
use Rattle.spec_data.specs.Digits.{read_hex}
use Rattle.spec_bitcoin.specs.declared.tx.TxIn.{TxIn}
use Rattle.spec_bitcoin.specs.declared.tx.Tx.{Tx}
use Rattle.spec_bitcoin.specs.Spelling.{compact, stripped}
use Rattle.spec_bitcoin.specs.Digests.{places_list, sequences_list, outputs_list, preimage, digest_at}

-- bytes by their hexadecimal digits
abbrev hex : List ℕ → List ℕ
hex text = option_map_or (λ bytes. bytes) (read_hex text) []

-- a string and its hash
abbrev Row : Type 0
Row = List ℕ × List ℕ

-- the hash that the table has for a string, nothing where it has none
abbrev by_table : List Row → List ℕ → List ℕ
by_table rows text = option_map_or (λ hash. hash) (lookup (bytes_eq text) rows) []

-- ---- the native example

abbrev native_first : TxIn
native_first = record {
  prev = record { txid = hex (codes "fff7f7881a8099afa6940d42d1e7f6362bec38171ea3edf433541db4e4ad969f"); vout = 0 };
  script_sig = [];
  sequence = 4294967278;
  witness = [];
}

abbrev native_second : TxIn
native_second = record {
  prev = record { txid = hex (codes "ef51e1b804cc89d182d279655c3aa89e815b1b309fe287d9b2b55d57b90ec68a"); vout = 1 };
  script_sig = [];
  sequence = 4294967295;
  witness = [];
}

abbrev native : Tx
native = record {
  version = 1;
  inputs = native_first ∷ native_second ∷ [];
  outputs =
      record { value = 112340000; script = hex (codes "76a9148280b37df378db99f66f85c95a783a76ac7a6d5988ac") }
      ∷ record { value = 223450000; script = hex (codes "76a9143bde42dbee7e4dbe6a21b2d50ce2f0167faa815988ac") }
      ∷ [];
  lock = 17;
}

-- the script of the input that is signed
abbrev native_script : List ℕ
native_script = hex (codes "76a9141d0f172a0ecb48aee1be1f2687d2963ae33f71a188ac")

-- the places, the sequences and the outputs, as the standard spells them
abbrev native_places : List ℕ
native_places = hex (
    codes "fff7f7881a8099afa6940d42d1e7f6362bec38171ea3edf433541db4e4ad969f00000000ef51e1b804cc89d182d279655c3aa89e815b1b" ++
    codes "309fe287d9b2b55d57b90ec68a01000000")

abbrev native_sequences : List ℕ
native_sequences = hex (codes "eeffffffffffffff")

abbrev native_outputs : List ℕ
native_outputs = hex (
    codes "202cb206000000001976a9148280b37df378db99f66f85c95a783a76ac7a6d5988ac9093510d000000001976a9143bde42dbee7e4dbe6a" ++
    codes "21b2d50ce2f0167faa815988ac")

-- what is signed, as the standard spells it
abbrev native_preimage : List ℕ
native_preimage = hex (
    codes "0100000096b827c8483d4e9b96712b6713a7b68d6e8003a781feba36c31143470b4efd3752b0a642eea2fb7ae638c36f6252b6750293db" ++
    codes "e574a806984b8e4d8548339a3bef51e1b804cc89d182d279655c3aa89e815b1b309fe287d9b2b55d57b90ec68a010000001976a9141d0f" ++
    codes "172a0ecb48aee1be1f2687d2963ae33f71a188ac0046c32300000000ffffffff863ef3e1a92afbfdb97f31ad0fc7683ee943e9abcf2501" ++
    codes "590ff8f6551f47e5e51100000001000000")

-- SHA-256 of these four strings, and of the four hashes
abbrev native_hashes : List Row
native_hashes =
    (native_places, hex (codes "c771f7ed8ee6224d08700833d1c6d31e7a1f6b7a3840c4e186c22136e8c9a6ed")) ∷ (
      hex (codes "c771f7ed8ee6224d08700833d1c6d31e7a1f6b7a3840c4e186c22136e8c9a6ed"),
      hex (codes "96b827c8483d4e9b96712b6713a7b68d6e8003a781feba36c31143470b4efd37"),
    ) ∷
    (native_sequences, hex (codes "b258c7ef98e1770484c86e4023c5b7361eb8e02e56b6fb7233af17ebe9eb017e")) ∷ (
      hex (codes "b258c7ef98e1770484c86e4023c5b7361eb8e02e56b6fb7233af17ebe9eb017e"),
      hex (codes "52b0a642eea2fb7ae638c36f6252b6750293dbe574a806984b8e4d8548339a3b"),
    ) ∷
    (native_outputs, hex (codes "48f88af72cd8cc9af8cbeb53b6c60b20b4a074dcd5be578cbc279311c7d72ea9")) ∷ (
      hex (codes "48f88af72cd8cc9af8cbeb53b6c60b20b4a074dcd5be578cbc279311c7d72ea9"),
      hex (codes "863ef3e1a92afbfdb97f31ad0fc7683ee943e9abcf2501590ff8f6551f47e5e5"),
    ) ∷
    (native_preimage, hex (codes "c304d56804b24a6801a77803281a497f5526e20f14e65df1006887fc57f0ee39")) ∷ (
      hex (codes "c304d56804b24a6801a77803281a497f5526e20f14e65df1006887fc57f0ee39"),
      hex (codes "c37af31116d1b27caf68aae9e3ac82f1477929014d5b917657d0eb49478cb670"),
    )
    ∷ []

native_lists_places : places_list native ≡ native_places
unfolding places_list
native_lists_places = refl

native_lists_sequences : sequences_list native ≡ native_sequences
unfolding sequences_list
native_lists_sequences = refl

native_lists_outputs : outputs_list native ≡ native_outputs
unfolding outputs_list compact
native_lists_outputs = refl

native_is_signed : preimage (by_table native_hashes) native native_second native_script 600000000 ≡ native_preimage
unfolding preimage places_list sequences_list outputs_list compact
native_is_signed = refl

native_digest :
    digest_at (by_table native_hashes) native 1 native_script 600000000
    ≡ hex (codes "c37af31116d1b27caf68aae9e3ac82f1477929014d5b917657d0eb49478cb670")
unfolding preimage places_list sequences_list outputs_list compact
native_digest = refl

native_bytes : stripped native ≡ hex (
    codes "0100000002fff7f7881a8099afa6940d42d1e7f6362bec38171ea3edf433541db4e4ad969f0000000000eeffffffef51e1b804cc89d182" ++
    codes "d279655c3aa89e815b1b309fe287d9b2b55d57b90ec68a0100000000ffffffff02202cb206000000001976a9148280b37df378db99f66f" ++
    codes "85c95a783a76ac7a6d5988ac9093510d000000001976a9143bde42dbee7e4dbe6a21b2d50ce2f0167faa815988ac11000000")
unfolding stripped compact
native_bytes = refl

-- ---- the nested example

abbrev nested_first : TxIn
nested_first = record {
  prev = record { txid = hex (codes "db6b1b20aa0fd7b23880be2ecbd4a98130974cf4748fb66092ac4d3ceb1a5477"); vout = 1 };
  script_sig = [];
  sequence = 4294967294;
  witness = [];
}

abbrev nested : Tx
nested = record {
  version = 1;
  inputs = nested_first ∷ [];
  outputs =
      record { value = 199996600; script = hex (codes "76a914a457b684d7f0d539a46a45bbc043f35b59d0d96388ac") }
      ∷ record { value = 800000000; script = hex (codes "76a914fd270b1ee6abcaea97fea7ad0402e8bd8ad6d77c88ac") }
      ∷ [];
  lock = 1170;
}

-- the script of the input that is signed
abbrev nested_script : List ℕ
nested_script = hex (codes "76a91479091972186c449eb1ded22b78e40d009bdf008988ac")

-- the places, the sequences and the outputs, as the standard spells them
abbrev nested_places : List ℕ
nested_places = hex (codes "db6b1b20aa0fd7b23880be2ecbd4a98130974cf4748fb66092ac4d3ceb1a547701000000")

abbrev nested_sequences : List ℕ
nested_sequences = hex (codes "feffffff")

abbrev nested_outputs : List ℕ
nested_outputs = hex (
    codes "b8b4eb0b000000001976a914a457b684d7f0d539a46a45bbc043f35b59d0d96388ac0008af2f000000001976a914fd270b1ee6abcaea97" ++
    codes "fea7ad0402e8bd8ad6d77c88ac")

-- what is signed, as the standard spells it
abbrev nested_preimage : List ℕ
nested_preimage = hex (
    codes "01000000b0287b4a252ac05af83d2dcef00ba313af78a3e9c329afa216eb3aa2a7b4613a18606b350cd8bf565266bc352f0caddcf01e8f" ++
    codes "a789dd8a15386327cf8cabe198db6b1b20aa0fd7b23880be2ecbd4a98130974cf4748fb66092ac4d3ceb1a5477010000001976a9147909" ++
    codes "1972186c449eb1ded22b78e40d009bdf008988ac00ca9a3b00000000feffffffde984f44532e2173ca0d64314fcefe6d30da6f8cf27baf" ++
    codes "a706da61df8a226c839204000001000000")

-- SHA-256 of these four strings, and of the four hashes
abbrev nested_hashes : List Row
nested_hashes =
    (nested_places, hex (codes "cddf06e3e7cc7c2b515aa8960e7ee526ffe975f30a421ca092075ade5cf47533")) ∷ (
      hex (codes "cddf06e3e7cc7c2b515aa8960e7ee526ffe975f30a421ca092075ade5cf47533"),
      hex (codes "b0287b4a252ac05af83d2dcef00ba313af78a3e9c329afa216eb3aa2a7b4613a"),
    ) ∷
    (nested_sequences, hex (codes "b4248c210a2905b94345e1a8414d0e12efcfb2f4f0f2397159a71283397a0ccd")) ∷ (
      hex (codes "b4248c210a2905b94345e1a8414d0e12efcfb2f4f0f2397159a71283397a0ccd"),
      hex (codes "18606b350cd8bf565266bc352f0caddcf01e8fa789dd8a15386327cf8cabe198"),
    ) ∷
    (nested_outputs, hex (codes "324d2443ed14b2ca1e7af61aba2d7fa517c5b8feb6433106b67a653a98b5c1a1")) ∷ (
      hex (codes "324d2443ed14b2ca1e7af61aba2d7fa517c5b8feb6433106b67a653a98b5c1a1"),
      hex (codes "de984f44532e2173ca0d64314fcefe6d30da6f8cf27bafa706da61df8a226c83"),
    ) ∷
    (nested_preimage, hex (codes "bc1c830fde767c143e007f9de485d6d291f5f87169a419f426ed9db97167cf31")) ∷ (
      hex (codes "bc1c830fde767c143e007f9de485d6d291f5f87169a419f426ed9db97167cf31"),
      hex (codes "64f3b0f4dd2bb3aa1ce8566d220cc74dda9df97d8490cc81d89d735c92e59fb6"),
    )
    ∷ []

nested_lists_places : places_list nested ≡ nested_places
unfolding places_list
nested_lists_places = refl

nested_lists_sequences : sequences_list nested ≡ nested_sequences
unfolding sequences_list
nested_lists_sequences = refl

nested_lists_outputs : outputs_list nested ≡ nested_outputs
unfolding outputs_list compact
nested_lists_outputs = refl

nested_is_signed : preimage (by_table nested_hashes) nested nested_first nested_script 1000000000 ≡ nested_preimage
unfolding preimage places_list sequences_list outputs_list compact
nested_is_signed = refl

nested_digest :
    digest_at (by_table nested_hashes) nested 0 nested_script 1000000000
    ≡ hex (codes "64f3b0f4dd2bb3aa1ce8566d220cc74dda9df97d8490cc81d89d735c92e59fb6")
unfolding preimage places_list sequences_list outputs_list compact
nested_digest = refl

nested_bytes : stripped nested ≡ hex (
    codes "0100000001db6b1b20aa0fd7b23880be2ecbd4a98130974cf4748fb66092ac4d3ceb1a54770100000000feffffff02b8b4eb0b00000000" ++
    codes "1976a914a457b684d7f0d539a46a45bbc043f35b59d0d96388ac0008af2f000000001976a914fd270b1ee6abcaea97fea7ad0402e8bd8a" ++
    codes "d6d77c88ac92040000")
unfolding stripped compact
nested_bytes = refl
