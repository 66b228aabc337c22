-- What a well-formed line is, with no reading in it.
use Rattle.std.specs.Prelude.{ℕ, ◌≤◌, ◌≡◌, List, [], ◌∷◌, ◌++◌, length}
use Rattle.hex_records.specs.Digits.{Spells}
use Rattle.hex_records.specs.Records.{record_bytes}
use Rattle.hex_records.specs.declared.Place.{Place}
use Rattle.hex_records.specs.declared.Place.TheVariants.{First, Next}

-- LF, or CR LF
pub data LineEnd : List ℕ → Type 0 where
  lf : LineEnd (0x0A ∷ [])
  crlf : LineEnd (0x0D ∷ 0x0A ∷ [])

-- a line with its end: a colon, digits in either case that spell a record's bytes, its checksum the right one; a data record has a byte, and the
-- end record neither data nor address
pub record Line (text : List ℕ) (address type : ℕ) (contents : List ℕ) : Type 0 where
  pub digits : List ℕ
  pub ending : List ℕ
  pub is : text ≡ 0x3A ∷ (digits ++ ending)
  pub spells : Spells digits (record_bytes address type contents)
  pub ends : LineEnd ending
  pub some : type ≡ 0 → 1 ≤ length contents
  pub bare : type ≡ 1 → (length contents ≡ 0) × (address ≡ 0)

-- no end record was read yet
pub data Open : Place → Type 0 where
  first : Open First
  next : {n : ℕ} → Open (Next n)

-- an address follows on: any at first, then the one after the last byte; no address follows FFFF, for none is 10000 or more
pub data Follows : Place → ℕ → Type 0 where
  base : {address : ℕ} → Follows First address
  on : {address : ℕ} → Follows (Next address) address
