-- A record made by hand as bytes: the size of memory, registers at 2, the count at 13, and twice an address and a value.
use Rattle.std.specs.Prelude.{ℕ, List, [], ◌∷◌, get_or, take, drop}
use Rattle.records.specs.declared.Record.{Record}
use Rattle.vectors.specs.Bytes.{long_at, registers_of}

abbrev pub record_in : List ℕ → Record
record_in bytes =
    record {
      registers = registers_of (take 11 (drop 2 bytes));
      count = long_at bytes 13;
      addresses = long_at bytes 17 ∷ long_at bytes 22 ∷ [];
      values = get_or bytes 21 0 ∷ get_or bytes 26 0 ∷ [];
    }
