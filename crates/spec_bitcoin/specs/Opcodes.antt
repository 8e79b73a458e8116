-- The opcodes of Bitcoin's script that contracts and their runs use, by name and by byte, as Bitcoin's consensus numbers them.
use Rattle.std.specs.Prelude.{ℕ, ◌-◌, ◌&&◌, nat_le, Option, Some, None, if◌then◌else◌, ◌==◌, pos, negsuc}
use Rattle.spec_bitcoin.specs.declared.opcode.Opcode.{Opcode}
use Rattle.spec_bitcoin.specs.declared.opcode.Opcode.TheVariants.{Constant, Binary, If, NotIf, Else, EndIf, Nop, Verify, Return}
use Rattle.spec_bitcoin.specs.declared.opcode.Opcode.TheVariants.{ToAltStack, FromAltStack, Drop, Dup, Pick, Swap, Size, Equal}
use Rattle.spec_bitcoin.specs.declared.opcode.Opcode.TheVariants.{EqualVerify, Not, Within, Sha256, Hash256, CheckSig, CheckSigVerify}
use Rattle.spec_bitcoin.specs.declared.script.Op.{Op}
use Rattle.spec_bitcoin.specs.declared.script.Op.TheVariants.{Code}
use Rattle.spec_bitcoin.specs.declared.opcode.Binary.TheVariants.{Add, Sub, BoolAnd, BoolOr, NumEqual, LessThan, Min, Max}

-- ---- what a byte does

-- the opcode of a byte; none where these have none
abbrev pub opcode_of : ℕ → Option Opcode
opcode_of c =
    if c == 0x4f then Some (Constant (negsuc 0)) else (
    if nat_le 0x51 c && nat_le c 0x60 then Some (Constant (pos (c - 80))) else (
    if c == 0x63 then Some If else (
    if c == 0x64 then Some NotIf else (
    if c == 0x67 then Some Else else (
    if c == 0x68 then Some EndIf else (
    if c == 0x61 then Some Nop else (
    if c == 0x69 then Some Verify else (
    if c == 0x6a then Some Return else (
    if c == 0x6b then Some ToAltStack else (
    if c == 0x6c then Some FromAltStack else (
    if c == 0x75 then Some Drop else (
    if c == 0x76 then Some Dup else (
    if c == 0x79 then Some Pick else (
    if c == 0x7c then Some Swap else (
    if c == 0x82 then Some Size else (
    if c == 0x87 then Some Equal else (
    if c == 0x88 then Some EqualVerify else (
    if c == 0x91 then Some Not else (
    if c == 0x93 then Some (Binary Add) else (
    if c == 0x94 then Some (Binary Sub) else (
    if c == 0x9a then Some (Binary BoolAnd) else (
    if c == 0x9b then Some (Binary BoolOr) else (
    if c == 0x9c then Some (Binary NumEqual) else (
    if c == 0x9f then Some (Binary LessThan) else (
    if c == 0xa3 then Some (Binary Min) else (
    if c == 0xa4 then Some (Binary Max) else (
    if c == 0xa5 then Some Within else (
    if c == 0xa8 then Some Sha256 else (
    if c == 0xaa then Some Hash256 else (
    if c == 0xac then Some CheckSig else (
    if c == 0xad then Some CheckSigVerify else (
    None))))))))))))))))))))))))))))))))

-- ---- operations by the names of their opcodes

abbrev pub op_1negate : Op
op_1negate = Code 0x4f

abbrev pub op_1 : Op
op_1 = Code 0x51

abbrev pub op_16 : Op
op_16 = Code 0x60

abbrev pub op_nop : Op
op_nop = Code 0x61

abbrev pub op_if : Op
op_if = Code 0x63

abbrev pub op_notif : Op
op_notif = Code 0x64

abbrev pub op_else : Op
op_else = Code 0x67

abbrev pub op_endif : Op
op_endif = Code 0x68

abbrev pub op_verify : Op
op_verify = Code 0x69

abbrev pub op_return : Op
op_return = Code 0x6a

abbrev pub op_toaltstack : Op
op_toaltstack = Code 0x6b

abbrev pub op_fromaltstack : Op
op_fromaltstack = Code 0x6c

abbrev pub op_drop : Op
op_drop = Code 0x75

abbrev pub op_dup : Op
op_dup = Code 0x76

abbrev pub op_pick : Op
op_pick = Code 0x79

abbrev pub op_swap : Op
op_swap = Code 0x7c

abbrev pub op_size : Op
op_size = Code 0x82

abbrev pub op_equal : Op
op_equal = Code 0x87

abbrev pub op_equalverify : Op
op_equalverify = Code 0x88

abbrev pub op_not : Op
op_not = Code 0x91

abbrev pub op_add : Op
op_add = Code 0x93

abbrev pub op_sub : Op
op_sub = Code 0x94

abbrev pub op_booland : Op
op_booland = Code 0x9a

abbrev pub op_boolor : Op
op_boolor = Code 0x9b

abbrev pub op_numequal : Op
op_numequal = Code 0x9c

abbrev pub op_lessthan : Op
op_lessthan = Code 0x9f

abbrev pub op_min : Op
op_min = Code 0xa3

abbrev pub op_max : Op
op_max = Code 0xa4

abbrev pub op_within : Op
op_within = Code 0xa5

abbrev pub op_sha256 : Op
op_sha256 = Code 0xa8

abbrev pub op_hash256 : Op
op_hash256 = Code 0xaa

abbrev pub op_checksig : Op
op_checksig = Code 0xac

abbrev pub op_checksigverify : Op
op_checksigverify = Code 0xad
