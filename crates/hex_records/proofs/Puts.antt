-- Writing one thing behind another, and a record's bytes looked up.
use Prim.Native.Nat.{ℕ, zero, suc, ◌+◌, ◌-◌, ◌*◌, ◌/◌, ◌%◌, ◌<◌, ◌≤◌}
use mathlib.Core.Path.{◌≡◌, refl, sym, ap, ◌∙◌, subst}
use mathlib.Core.List.{List, [], ◌∷◌, ◌++◌, append_assoc}
use native.Mathlib.Omega.{arith}
use native.Mathlib.Numerals.{add-one}
use lib.ListN.{length, get_or, take, drop, set, length-set, length-append, length-drop, take-append-drop}
use lib.Seq.{take-suc, take_all, take_at, drop-drop, set_split, length-take-le, get_or_at, drop-append-add}
use Rattle.numbers.specs.Folds.{total}
use Rattle.numbers.specs.Words.{high, low}
use Rattle.numbers.proofs.Folding.{total_more}
use Rattle.hex_records.specs.Digits.{digit_of, spelled}
use Rattle.hex_records.specs.Records.{checksum, record_front, record_bytes, line_body, line}
use Rattle.hex_records.specs.Internal.{put_at}

pub put_length : (out s : List ℕ) (n : ℕ) → n + length s ≤ length out → length (put_at out n s) ≡ length out
put_length out s n h =
    omega (
      arith,
      h,
      length-append (take n out) (s ++ drop (n + length s) out),
      length-append s (drop (n + length s) out),
      length-drop (n + length s) out,
      length-take-le n out (let below : n ≤ length out = omega (arith, h) in below),
    )

pub put_one : (out : List ℕ) (n c : ℕ) → n < length out → set out n c ≡ put_at out n (c ∷ [])
put_one out n c h = set_split out n c h ∙ ap (λ (k : ℕ). take n out ++ c ∷ drop k out) (let same : suc n ≡ n + 1 = omega arith in same)

-- one behind the other
pub put_then : (out mid s t : List ℕ) (n m : ℕ) → n + length s ≤ length out → mid ≡ put_at out n s → m ≡ n + length s → put_at mid m t ≡ put_at out n (s ++ t)
put_then out mid s t n m h e f =
    let below : n ≤ length out = omega (arith, h) in
    let front : length (take n out ++ s) ≡ m = omega (arith, f, length-append (take n out) s, length-take-le n out below) in
    let shape : mid ≡ (take n out ++ s) ++ drop m out =
    e ∙ sym (append_assoc (take n out) s (drop (n + length s) out)) ∙ ap (λ (k : ℕ). (take n out ++ s) ++ drop k out) (sym f) in
    let first' : take m mid ≡ take n out ++ s = ap (take m) shape ∙ take_at (take n out ++ s) (drop m out) m front in
    let last' : drop (m + length t) mid ≡ drop (m + length t) out =
    ap (drop (m + length t)) shape ∙
    ap (λ (k : ℕ). drop (k + length t) ((take n out ++ s) ++ drop m out)) (sym front) ∙
    drop-append-add (take n out ++ s) (drop m out) (length t) ∙ drop-drop (length t) m out in
    let end : m + length t ≡ n + length (s ++ t) = omega (arith, f, length-append s t) in
    rw (first', last', end)
    (append_assoc (take n out) s (t ++ drop (n + length (s ++ t)) out) ∙
    ap (λ (l : List ℕ). take n out ++ l) (sym (append_assoc s t (drop (n + length (s ++ t)) out))))

-- what is put so far, and one piece more
pub record Put (entry : List ℕ) (n : ℕ) (whole out : List ℕ) : Type 0 where
  pub size : length out ≡ length entry
  pub is : out ≡ put_at entry n whole

pub put_begun : (entry : List ℕ) (n : ℕ) → Put entry n [] entry
put_begun entry n =
    let none : n + 0 ≡ n = omega arith in
    record { size = refl; is = sym (take-append-drop n entry) ∙ ap (λ (k : ℕ). take n entry ++ drop k entry) (sym none) }

pub put_next : (entry whole out piece next : List ℕ) (n m : ℕ) → n + (length whole + length piece) ≤ length entry → m ≡ n + length whole →
    next ≡ put_at out m piece → Put entry n whole out → Put entry n (whole ++ piece) next
put_next entry whole out piece next n m room at e p =
    record {
      size = ap length e ∙ put_length out piece m (omega (arith, p.size)) ∙ p.size;
      is = e ∙ put_then entry out whole piece n m (omega arith) p.is at;
    }

-- A list put one number at a time, each as the same number of bytes whatever stands before it.
module _ (f : List ℕ → List ℕ) (additive : (s t : List ℕ) → f (s ++ t) ≡ f s ++ f t) (s : List ℕ) (k : ℕ) (below : k < length s) where
  one_more : f (take (k + 1) s) ≡ f (take k s) ++ f (get_or s k 0 ∷ [])
  one_more = rw (add-one, take-suc s k 0 below) (additive (take k s) (get_or s k 0 ∷ []))

  fits_more : length (f (take k s)) + length (f (get_or s k 0 ∷ [])) ≤ length (f s)
  fits_more =
      let parts = ap f (sym (take-append-drop (k + 1) s)) ∙ additive (take (k + 1) s) (drop (k + 1) s) in
      omega (
        arith,
        ap length parts,
        length-append (f (take (k + 1) s)) (f (drop (k + 1) s)),
        ap length one_more,
        length-append (f (take k s)) (f (get_or s k 0 ∷ [])),
      )

  pub put_turn : (entry out next : List ℕ) (n m : ℕ) → n + length (f s) ≤ length entry → m ≡ n + length (f (take k s)) →
      next ≡ put_at out m (f (get_or s k 0 ∷ [])) → Put entry n (f (take k s)) out → Put entry n (f (take (k + 1) s)) next
  put_turn entry out next n m room at e p =
      subst (λ (whole : List ℕ). Put entry n whole next) (sym one_more)
      (put_next entry (f (take k s)) out (f (get_or s k 0 ∷ [])) next n m (omega (arith, fits_more)) at e p)

pub put_two : (out : List ℕ) (n h l : ℕ) → n + 2 ≤ length out → set (set out n h) (n + 1) l ≡ put_at out n (h ∷ l ∷ [])
put_two out n h l room =
    put_one (set out n h) (n + 1) l (omega (arith, length-set out n h)) ∙
    put_then out (set out n h) (h ∷ []) (l ∷ []) n (n + 1) (omega arith) (put_one out n h (omega arith)) refl

pub put_byte : (out : List ℕ) (n b h l : ℕ) → n + 2 ≤ length out → h ≡ digit_of (b / 16) → l ≡ digit_of (b % 16) →
    set (set out n h) (n + 1) l ≡ put_at out n (spelled (b ∷ []))
unfolding spelled
put_byte out n b h l room eh el = put_two out n h l room ∙ rw (eh, el)

pub sum_next : (l : List ℕ) (k v sum : ℕ) → k < length l → v ≡ get_or l k 0 → sum ≡ total (take k l) % 256 → (sum + v) % 256 ≡ total (take (k + 1) l) % 256
sum_next l k v sum h e known = omega (arith, total_more l k 0 h, e, known)

pub sum_end : (l : List ℕ) (k sum : ℕ) → length l ≤ k → sum ≡ total (take k l) % 256 → sum ≡ total l % 256
sum_end l k sum h known = known ∙ ap (λ (s : List ℕ). total s % 256) (take_all k l h)

pub sum_none : (l : List ℕ) → 0 ≡ total (take 0 l) % 256
unfolding total
sum_none l = refl

pub check_is : (address kind h l sum : ℕ) (contents : List ℕ) → h ≡ high address → l ≡ low address → sum ≡ total contents % 256 →
    (256 - (length contents + h + l + kind + sum) % 256) % 256 ≡ checksum (record_front address kind contents)
unfolding checksum record_front total
check_is address kind h l sum contents eh el es = rw (← eh, ← el) (omega (arith, es))

in_front : (s : List ℕ) (i c : ℕ) → i < length s → get_or (s ++ c ∷ []) i 0 ≡ get_or s i 0
in_front [] i c h = let z : ⊥ = omega (arith, h) in absurd z
in_front (b ∷ s) zero c h = refl
in_front (b ∷ s) (suc i) c h = in_front s i c (omega (arith, h))

front_length : (address kind : ℕ) (contents : List ℕ) → length (record_front address kind contents) ≡ length contents + 4
unfolding record_front
front_length address kind contents = omega arith

-- a record's bytes by their index
byte_behind : (address kind i : ℕ) (contents : List ℕ) → i < length contents → get_or contents i 0 ≡ get_or (record_bytes address kind contents) (suc (suc (suc (suc i)))) 0
unfolding record_bytes record_front
byte_behind address kind i contents g = sym (in_front contents i _ g)

pub byte_data : (address kind k : ℕ) (contents : List ℕ) → 4 ≤ k → k < length contents + 4 →
    get_or contents (k - 4) 0 ≡ get_or (record_bytes address kind contents) k 0
byte_data address kind k contents h g =
    let here : suc (suc (suc (suc (k - 4)))) ≡ k = omega (arith, h) in
    byte_behind address kind (k - 4) contents (omega (arith, h, g)) ∙ ap (λ (k : ℕ). get_or (record_bytes address kind contents) k 0) here

pub byte_check : (address kind k : ℕ) (contents : List ℕ) → k ≡ length contents + 4 → checksum (record_front address kind contents) ≡ get_or (record_bytes address kind contents) k 0
unfolding record_bytes
byte_check address kind k contents e =
    sym (get_or_at (record_front address kind contents) (checksum (record_front address kind contents)) [] 0 k (front_length address kind contents ∙ sym e))

pub byte_0 : (address kind k : ℕ) (contents : List ℕ) → k ≡ 0 → length contents ≡ get_or (record_bytes address kind contents) k 0
unfolding record_bytes record_front
byte_0 address kind k contents e = rw e

pub byte_1 : (address kind k : ℕ) (contents : List ℕ) → k ≡ 1 → high address ≡ get_or (record_bytes address kind contents) k 0
unfolding record_bytes record_front
byte_1 address kind k contents e = rw e

pub byte_2 : (address kind k : ℕ) (contents : List ℕ) → k ≡ 2 → low address ≡ get_or (record_bytes address kind contents) k 0
unfolding record_bytes record_front
byte_2 address kind k contents e = rw e

pub byte_3 : (address kind k : ℕ) (contents : List ℕ) → k ≡ 3 → kind ≡ get_or (record_bytes address kind contents) k 0
unfolding record_bytes record_front
byte_3 address kind k contents e = rw e

-- A line, as far as it is written.
pub spelled_more : (s t : List ℕ) → spelled (s ++ t) ≡ spelled s ++ spelled t
unfolding spelled
spelled_more [] t = refl
spelled_more (b ∷ s) t = ap (λ (l : List ℕ). digit_of (b / 16) ∷ digit_of (b % 16) ∷ l) (spelled_more s t)

pub spelled_length : (s : List ℕ) → length (spelled s) ≡ 2 * length s
unfolding spelled
spelled_length [] = omega arith
spelled_length (b ∷ s) = omega (arith, spelled_length s)

-- a colon in front, and LF behind
pub row_length : (entry mid : List ℕ) (n m : ℕ) (bytes : List ℕ) → n < length entry → m ≡ n + 1 → m + 2 * length bytes ≤ length entry →
    mid ≡ put_at (set entry n 0x3A) m (spelled bytes) → length mid ≡ length entry
row_length entry mid n m bytes h e room f =
    let size : length (set entry n 0x3A) ≡ length entry = ap length (put_one entry n 0x3A h) ∙ put_length entry (0x3A ∷ []) n (omega (arith, h)) in
    ap length f ∙ put_length (set entry n 0x3A) (spelled bytes) m (omega (arith, size, room, spelled_length bytes)) ∙ size

pub row_whole : (entry mid : List ℕ) (n m j address kind : ℕ) (contents : List ℕ) → m ≡ n + 1 →
    j ≡ n + 1 + 2 * length (record_bytes address kind contents) → j < length entry →
    mid ≡ put_at (set entry n 0x3A) m (spelled (record_bytes address kind contents)) → set mid j 0x0A ≡ put_at entry n (line address kind contents)
unfolding line line_body
row_whole entry mid n m j address kind contents e at room f =
    let bytes = record_bytes address kind contents in
    let front = spelled_length bytes in
    let here : mid ≡ put_at entry n (0x3A ∷ spelled bytes) =
    f ∙ put_then entry (set entry n 0x3A) (0x3A ∷ []) (spelled bytes) n m (omega (arith, room, at)) (put_one entry n 0x3A (omega (arith, room, at))) (omega (arith, e)) in
    let size = row_length entry mid n m bytes (omega (arith, room, at)) e (omega (arith, room, at, e)) f in
    put_one mid j 0x0A (omega (arith, size, room)) ∙
    put_then entry mid (0x3A ∷ spelled bytes) (0x0A ∷ []) n j (omega (arith, front, room, at)) here (omega (arith, front, at))
