-- What a byte string holds: a few bytes in place, or a vector.
use Rattle.std.specs.Prelude.{ℕ, List, take}
use Rattle.spec_data.specs.declared.byte_list.Room.{Room}
use Rattle.spec_data.specs.declared.byte_list.Room.TheVariants as rooms

-- the bytes of a byte string, without what fills its place
unfoldable pub bytes_in : Room → List ℕ
bytes_in (rooms.Place len bytes) = take len bytes
bytes_in (rooms.Vector list) = list.items
