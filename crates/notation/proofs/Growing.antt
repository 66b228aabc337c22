-- Laws of a text that grows at its end.
use Rattle.std.proofs.Common.{◌≡◌, ℕ, zero, suc, ◌+◌, ◌-◌, ◌<◌, ◌≤◌, List, [], ◌∷◌, ◌++◌, length, take, set, refl, sym, ap, ◌∙◌, append_assoc, append-nil, length-append, length-take, length-take-le, arith}
use Rattle.std.proofs.Math.Seq.{take-nil}
use Rattle.std.proofs.lemmas.List.{take_all, take_more_set}
use Rattle.notation.specs.Writing.{appended}

take_both : (n : ℕ) (s t : List ℕ) → take n (s ++ t) ≡ take n s ++ take (n - length s) t
take_both n [] t =
    let all : n - 0 ≡ n = omega arith in
    rw (take-nil n, all) refl
take_both zero (x ∷ s) t =
    let none : zero - suc (length s) ≡ zero = omega arith in
    rw none refl
take_both (suc n) (x ∷ s) t =
    let rest : suc n - suc (length s) ≡ n - length s = omega arith in
    rw rest (ap (λ l. x ∷ l) (take_both n s t))

-- letters after others
pub appended_twice : (n : ℕ) (text s t : List ℕ) → appended n (appended n text s) t ≡ appended n text (s ++ t)
unfolding appended
appended_twice n text s t =
    let room = n - length text in
    let left : n - length (text ++ take room s) ≡ room - length s = rw (length-append, length-take) (omega arith) in
    rw (left, take_both room s t, append_assoc)

-- none
pub appended_none : (n : ℕ) (text : List ℕ) → appended n text [] ≡ text
unfolding appended
appended_none n text = rw (take-nil (n - length text)) (append-nil text)

-- as many as there is room for
pub appended_all : (n : ℕ) (text letters : List ℕ) → length text + length letters ≤ n → appended n text letters ≡ text ++ letters
unfolding appended
appended_all n text letters room = rw (take_all (n - length text) letters (omega arith))

-- one letter more than the cells had, and one for which there is no cell
pub letter_stored : (n k : ℕ) (cells : List ℕ) (b : ℕ) → length cells ≡ n → k < n → take (k + 1) (set cells k b) ≡ appended n (take k cells) (b ∷ [])
letter_stored n k cells b size room =
    let front = length-take-le k cells (omega arith) in
    take_more_set cells k b (omega arith) ∙ sym (appended_all n (take k cells) (b ∷ []) (omega arith))

pub letter_left_out : (n : ℕ) (text : List ℕ) (b : ℕ) → n ≤ length text → text ≡ appended n text (b ∷ [])
unfolding appended
letter_left_out n text b full =
    let none : n - length text ≡ 0 = omega arith in
    rw none (sym (append-nil text))
