-- The list of a routine's instructions has what stands at its starts, and nothing else.
use Prim.Native.Nat.{ℕ, ◌<◌}
use mathlib.Core.Path.{◌≡◌, refl}
use mathlib.Core.Logic.{◌⊎◌, inl, inr, ⊎_elim, ◌↔◌}
use mathlib.Core.List.{List, [], ◌∷◌, ◌++◌, flat_map}
use Rattle.std.specs.Prelude.{Ok, Err}
use Rattle.stm8.specs.Decoding.{Decoded}
use Rattle.image.specs.Image.{start_of, end_of}
use Rattle.code.specs.Code.{instruction_at, Start}
use Rattle.code.specs.Instructions.{In, head, tail, Located, located_at, starts_of, instructions_of}
use Rattle.code.proofs.StartList.{listed_start, start_listed}

module _ {A : Type 0} {x : A} where
  -- a member of two lists in a row
  in_front : {l : List A} (m : List A) → In x l → In x (l ++ m)
  in_front m head = head
  in_front m (tail i) = tail (in_front m i)

  in_back : (l : List A) {m : List A} → In x m → In x (l ++ m)
  in_back [] i = i
  in_back (y ∷ l) i = tail (in_back l i)

  in_either : (l m : List A) → In x (l ++ m) → In x l ⊎ In x m
  in_either [] m i = inr i
  in_either (y ∷ l) m head = inl head
  in_either (y ∷ l) m (tail i) = ⊎_elim (λ j. inl (tail j)) (λ j. inr j) (in_either l m i)

  -- and of the lists of a list's members
  in_some : (f : ℕ → List A) (l : List ℕ) → In x (flat_map f l) → (o : ℕ) × In o l × In x (f o)
  unfolding flat_map
  in_some f (o ∷ l) i =
      ⊎_elim (λ j. (o, head, j)) (λ j. let k = in_some f l j in (k.0, tail k.1, k.2)) (in_either (f o) (flat_map f l) i)
  in_some f [] i = elim i [ ]

  some_in : (f : ℕ → List A) {o : ℕ} {l : List ℕ} → In o l → In x (f o) → In x (flat_map f l)
  unfolding flat_map
  some_in f (head {rest}) i = in_front (flat_map f rest) i
  some_in f (tail {y} j) i = in_back (f y) (some_in f j i)

located : {e : Located} (o : ℕ) (d : Decoded) → In e (located_at o d) → (e.offset ≡ o) × (d ≡ Ok (e.instruction, e.size))
located o (Ok (i, n)) head = (refl, refl)
located {e = e} o (Ok (i, n)) (tail x4) = elim x4 [ ]
located {e = e} o (Err error) x3 = elim x3 [ ]

found_located : {d : Decoded} {e : Located} → d ≡ Ok (e.instruction, e.size) → In e (located_at e.offset d)
found_located f = rw f head

module _ (image : List ℕ) (r : ℕ) (some : start_of image r < end_of image r) (e : Located) where
  pub instruction_listed :
      In e (instructions_of image r) ↔ (Start image r e.offset × (instruction_at image r e.offset ≡ Ok (e.instruction, e.size)))
  unfolding instructions_of
  instruction_listed = (
    λ i.
        let at = in_some (λ o. located_at o (instruction_at image r o)) (starts_of image r) i in
        let is = located at.0 (instruction_at image r at.0) at.2 in
        rw is.0 (listed_start image r at.1, is.1),
    λ h. some_in (λ o. located_at o (instruction_at image r o)) (start_listed image r some h.0) (found_located h.1),
  )
