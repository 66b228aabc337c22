-- What stands after a name, one after the other, each with the byte that separates it from what is there.
use Rattle.std.proofs.Common.{◌≡◌, ℕ, ◌+◌, ◌<◌, List, [], ◌∷◌, ◌++◌, length, map, drop, get_or, refl, sym, ap, ◌∙◌, append_assoc, append-nil}
use Rattle.std.proofs.lemmas.List.{at_drop_more}
use Rattle.notation.specs.Notation.{further_operands, line}
use Rattle.notation.specs.Writing.{appended, shown_text}
use Rattle.notation.specs.declared.lines.Shown.{Shown}
use Rattle.notation.proofs.Growing.{appended_twice}

abbrev pub after : ℕ → List (List ℕ) → List ℕ
after separator [] = []
after separator (x ∷ xs) = separator ∷ x ++ further_operands xs

after_another : (xs : List (List ℕ)) → after 44 xs ≡ further_operands xs
after_another [] = refl
after_another (x ∷ xs) = refl

-- one more of them
pub next_shown : (n : ℕ) (text : List ℕ) (separator : ℕ) (xs : List Shown) (k : ℕ) (d : Shown) → k < length xs →
    appended n (appended n (appended n text (separator ∷ [])) (shown_text (get_or xs k d))) (after 44 (map shown_text (drop (k + 1) xs))) ≡
    appended n text (after separator (map shown_text (drop k xs)))
next_shown n text separator xs k d h =
    let shown = shown_text (get_or xs k d) in
    appended_twice n _ shown _ ∙ appended_twice n text (separator ∷ []) _ ∙
    ap (λ rest. appended n text (separator ∷ shown ++ rest)) (after_another (map shown_text (drop (k + 1) xs))) ∙
    ap (appended n text) (sym (at_drop_more (λ rest. after separator (map shown_text rest)) xs k d h))

-- one after a name
pub with_one : (n : ℕ) (text name x : List ℕ) →
    appended n (appended n (appended n text name) (32 ∷ [])) x ≡ appended n text (line name (x ∷ []))
with_one n text name x =
    appended_twice n _ (32 ∷ []) x ∙ appended_twice n text name (32 ∷ x) ∙ ap (λ s. appended n text (name ++ 32 ∷ s)) (sym (append-nil x))

further_one : (xs : List (List ℕ)) (y : List ℕ) → further_operands xs ++ 44 ∷ y ≡ further_operands (xs ++ y ∷ [])
further_one [] y = ap (λ s. 44 ∷ s) (sym (append-nil y))
further_one (x ∷ xs) y = rw append_assoc (ap (λ s. 44 ∷ (x ++ s)) (further_one xs y))

-- one more after a line
pub with_another : (n : ℕ) (text name x : List ℕ) (xs : List (List ℕ)) (y : List ℕ) →
    appended n (appended n text (line name (x ∷ xs))) (44 ∷ y) ≡ appended n text (line name (x ∷ (xs ++ y ∷ [])))
with_another n text name x xs y =
    appended_twice n text (line name (x ∷ xs)) (44 ∷ y) ∙
    ap (appended n text) (rw (append_assoc, append_assoc) (ap (λ s. name ++ 32 ∷ (x ++ s)) (further_one xs y)))
