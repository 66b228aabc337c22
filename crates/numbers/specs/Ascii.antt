-- The bytes of a text, which is ASCII wherever the specifications write one.
use Prim.Native.String.{String, [], ◌∷◌}
use Prim.Native.Char.{code}
use Rattle.std.specs.Prelude.{ℕ}
use mathlib.Core.List as List

abbrev pub ascii : String → List.List ℕ
ascii [] = List.[]
ascii (c ∷ text) = List.◌∷◌ (code c) (ascii text)
