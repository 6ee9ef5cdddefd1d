-- The entries of the text order as keys. Definitions only.
use Rattle.std.specs.Prelude.{ℕ, ◌+◌, ◌*◌, List, map}
use Rattle.spec.specs.Position.{Entry, entries}

-- an entry as one number: by byte index, and by place where that is equal
abbrev pub key_of : Entry → ℕ
key_of e = e.index * 65536 + e.place

-- the keys of clusters by their byte indexes, as they come
abbrev pub keys_of : List ℕ → List ℕ
keys_of is = map key_of (entries 0 is)
