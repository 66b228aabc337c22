-- A line is judged well formed exactly when it is.
use Prim.Native.Nat.{ℕ, zero, suc, ◌+◌, ◌-◌, ◌*◌, ◌%◌, ◌<◌, ◌≤◌}
use mathlib.Core.Path.{◌≡◌, refl, sym, ap, ◌∙◌, subst}
use mathlib.Core.Bool.{Bool, true, false, true≢false, cond}
use mathlib.Core.List.{List, [], ◌∷◌, ◌++◌, append_assoc, append-nil}
use native.Mathlib.Omega.{arith}
use lib.Dec.{eqb, ltb}
use lib.ListN.{length, get_or, take, drop}
use borrow.Author.Tests.{lt-ltb, ltb-true, ne_eqb, eqb-true}
use Rattle.numbers.specs.Folds.{total, first_in}
use Rattle.numbers.specs.Lists.{Bytes}
use Rattle.numbers.specs.Words.{word, word_at}
use Rattle.numbers.specs.Checks.{first, differ}
use Rattle.numbers.proofs.WordLaws.{high_word, low_word}
use Rattle.numbers.proofs.Checking.{by_cond, first_zero, unless_zero, differ_zero, under_zero, under_pass, differ_pass}
use Rattle.numbers.proofs.Folding.{◌&◌}
use Rattle.hex_records.specs.Digits.{Spells, none, more, byte_of, pairs, all_bytes}
use Rattle.hex_records.specs.Records.{checksum, record_front, record_bytes}
use Rattle.hex_records.specs.Judging.{line_bytes, length_in, address_in, type_in, data_in, shape_check, form_check}
use Rattle.hex_records.specs.Lines.{LineEnd, lf, crlf, Line}
use Rattle.hex_records.proofs.Spelling as Spelling
use Rattle.hex_records.proofs.Spelling.{NoLf, total_last, declared_byte, declared_small, declared_not_lf, byte_digits_lem}
use Rattle.hex_records.proofs.RecordLaws.{form_check_lem}

-- From the meaning: digits that spell bytes, with or without CR
spells_pairs : {digits bytes : List ℕ} → Spells digits bytes → pairs digits ≡ bytes
unfolding pairs
spells_pairs none = refl
spells_pairs (more h k rest) = rw (declared_byte h k, spells_pairs rest)

spells_cr : {digits bytes : List ℕ} → Spells digits bytes → pairs (digits ++ 0x0D ∷ []) ≡ bytes
unfolding pairs
spells_cr none = refl
spells_cr (more h k rest) = rw (declared_byte h k, spells_cr rest)

spells_bytes : {digits bytes : List ℕ} → Spells digits bytes → all_bytes bytes ≡ true
unfolding all_bytes
spells_bytes none = refl
spells_bytes (more {c} {d} {h} {l} p q rest) =
    rw (lt-ltb (h * 16 + l) 256 (omega (arith, declared_small p, declared_small q)), spells_bytes rest)

spells_not_lf : {digits bytes : List ℕ} (x : List ℕ) → NoLf x → Spells digits bytes → NoLf (digits ++ x)
spells_not_lf x e none = e
spells_not_lf x e (more h k rest) = Spelling.more (declared_not_lf h) (Spelling.more (declared_not_lf k) (spells_not_lf x e rest))

-- what reading makes of a well-formed line
pub record Told (text : List ℕ) (address type : ℕ) (contents : List ℕ) : Type 0 where
  pub body : List ℕ
  pub is : text ≡ body ++ 0x0A ∷ []
  pub plain : NoLf body
  pub bytes : line_bytes body ≡ record_bytes address type contents
  pub formed : form_check (record_bytes address type contents) ≡ 0

shape_pass : (type n address : ℕ) → (type ≡ 0 → 1 ≤ n) → (type ≡ 1 → (n ≡ 0) × (address ≡ 0)) → shape_check type n address ≡ 0
unfolding shape_check
shape_pass zero n address some bare = under_pass n 1 30 (some refl)
shape_pass (suc zero) n address some bare = differ_pass n 0 30 (bare refl).0 & differ_pass address 0 30 (bare refl).1
shape_pass (suc (suc k)) n address some bare =
    rw (ne_eqb (suc (suc k)) 0 (λ e. omega (arith, e)), ne_eqb (suc (suc k)) 1 (λ e. omega (arith, e)))

ending_told : (text digits ending : List ℕ) (address type : ℕ) (contents : List ℕ) → text ≡ 0x3A ∷ (digits ++ ending) → LineEnd ending →
    Spells digits (record_bytes address type contents) → form_check (record_bytes address type contents) ≡ 0 → Told text address type contents
unfolding line_bytes
ending_told text digits ending address type contents e lf spells formed =
    record {
      body = 0x3A ∷ digits;
      is = e;
      plain = Spelling.more refl (subst NoLf (append-nil digits) (spells_not_lf [] Spelling.none spells));
      bytes = spells_pairs spells;
      formed = formed;
    }
ending_told text digits ending address type contents e crlf spells formed =
    record {
      body = 0x3A ∷ (digits ++ 0x0D ∷ []);
      is = e ∙ ap (λ (l : List ℕ). 0x3A ∷ l) (sym (append_assoc digits (0x0D ∷ []) (0x0A ∷ [])));
      plain = Spelling.more refl (spells_not_lf (0x0D ∷ []) (Spelling.more refl Spelling.none) spells);
      bytes = spells_cr spells;
      formed = formed;
    }

pub told : (text : List ℕ) (address type : ℕ) (contents : List ℕ) → Line text address type contents → Told text address type contents
told text address type contents h =
    ending_told text h.digits h.ending address type contents h.is h.ends h.spells
    (form_check_lem address type contents (spells_bytes h.spells) (shape_pass type (length contents) address h.some h.bare))

-- To the meaning: pairs that are all bytes
record Spelt (text bytes : List ℕ) : Type 0 where
  pub digits : List ℕ
  pub ending : List ℕ
  pub is : text ++ 0x0A ∷ [] ≡ digits ++ ending
  pub spells : Spells digits bytes
  pub ends : LineEnd ending

all_first : (b : ℕ) (s : List ℕ) → all_bytes (b ∷ s) ≡ true → (b < 256) × (all_bytes s ≡ true)
unfolding all_bytes
all_first b s = by_cond (ltb b 256) (λ p q. (ltb-true b 256 p, q)) (λ p q. absurd (true≢false (sym q)))

not_byte : (s : List ℕ) → all_bytes (256 ∷ s) ≡ true → ⊥
unfolding all_bytes
not_byte s e = true≢false (sym e)

spelt_last : (c : ℕ) → all_bytes (pairs (c ∷ [])) ≡ true → Spelt (c ∷ []) (pairs (c ∷ []))
unfolding pairs
spelt_last c = go (eqb c 0x0D) refl
  where
    go : (t : Bool) → eqb c 0x0D ≡ t → all_bytes (cond t [] (256 ∷ [])) ≡ true → Spelt (c ∷ []) (cond t [] (256 ∷ []))
    go true e all =
        record { digits = []; ending = 0x0D ∷ 0x0A ∷ []; is = ap (λ (c : ℕ). c ∷ 0x0A ∷ []) (eqb-true c 0x0D e); spells = none; ends = crlf }
    go false e all = absurd (not_byte [] all)

spelt_more : (c d : ℕ) (text bytes : List ℕ) → byte_of c d < 256 → Spelt text bytes → Spelt (c ∷ d ∷ text) (byte_of c d ∷ bytes)
spelt_more c d text bytes small h =
    let two = byte_digits_lem c d small in
    record {
      digits = c ∷ d ∷ h.digits;
      ending = h.ending;
      is = ap (λ (l : List ℕ). c ∷ d ∷ l) h.is;
      spells = subst (λ (v : ℕ). Spells (c ∷ d ∷ h.digits) (v ∷ bytes)) two.is (more two.first two.second h.spells);
      ends = h.ends;
    }

spelt : (text : List ℕ) → all_bytes (pairs text) ≡ true → Spelt text (pairs text)
unfolding pairs
spelt [] all = record { digits = []; ending = 0x0A ∷ []; is = refl; spells = none; ends = lf }
spelt (c ∷ []) all = spelt_last c all
spelt (c ∷ d ∷ text) all =
    let parts = all_first (byte_of c d) (pairs text) all in
    spelt_more c d text (pairs text) parts.0 (spelt text parts.1)

-- bytes of the right length and sum are a record's
split_last : (n : ℕ) (s : List ℕ) → length s ≡ n + 1 → take n s ++ get_or s n 0 ∷ [] ≡ s
split_last zero [] e = let z : ⊥ = omega (arith, e) in absurd z
split_last zero (b ∷ []) e = refl
split_last zero (b ∷ c ∷ s) e = let z : ⊥ = omega (arith, e) in absurd z
split_last (suc n) [] e = let z : ⊥ = omega (arith, e) in absurd z
split_last (suc n) (b ∷ s) e = ap (λ (l : List ℕ). b ∷ l) (split_last n s (omega (arith, e)))

pub all_at : (s : List ℕ) → all_bytes s ≡ true → Bytes s
all_at [] h k = omega arith
all_at (b ∷ s) h zero = (all_first b s h).0
all_at (b ∷ s) h (suc k) = all_at s (all_first b s h).1 k

check_is : (front : List ℕ) (c : ℕ) → c < 256 → total (front ++ c ∷ []) % 256 ≡ 0 → checksum front ≡ c
unfolding checksum
check_is front c small e = omega (arith, small, total_last front c, rw (total_last front c) at e)

taken : (n : ℕ) (s : List ℕ) → length s ≡ n + 1 → length (take n s) ≡ n
taken zero s e = refl
taken (suc n) [] e = let z : ⊥ = omega (arith, e) in absurd z
taken (suc n) (b ∷ s) e = ap suc (taken n s (omega (arith, e)))

-- with the data and the checksum split off
record_is : (n h l t c : ℕ) (contents : List ℕ) → length contents ≡ n → l < 256 → c < 256 → total (n ∷ h ∷ l ∷ t ∷ contents ++ c ∷ []) % 256 ≡ 0 →
    n ∷ h ∷ l ∷ t ∷ contents ++ c ∷ [] ≡ record_bytes (word h l) t contents
unfolding record_bytes record_front
record_is n h l t c contents e small last sum =
    rw (e, high_word h l small, low_word h l small)
    (ap (λ (c : ℕ). n ∷ h ∷ l ∷ t ∷ (contents ++ c ∷ [])) (sym (check_is (n ∷ h ∷ l ∷ t ∷ contents) c last sum)))

pub record Parts (bytes : List ℕ) : Type 0 where
  pub is : bytes ≡ record_bytes (address_in bytes) (type_in bytes) (data_in bytes)
  pub size : length (data_in bytes) ≡ length_in bytes

parts_of : (n h l t : ℕ) (s : List ℕ) → Bytes (n ∷ h ∷ l ∷ t ∷ s) → length s ≡ n + 1 → total (n ∷ h ∷ l ∷ t ∷ s) % 256 ≡ 0 → Parts (n ∷ h ∷ l ∷ t ∷ s)
unfolding address_in type_in data_in length_in word_at
parts_of n h l t s b e sum =
    let split = split_last n s e in
    record {
      is =
          ap (λ (s : List ℕ). n ∷ h ∷ l ∷ t ∷ s) (sym split) ∙
          record_is n h l t (get_or s n 0) (take n s) (taken n s e) (b 2) (b (suc (suc (suc (suc n)))))
          (subst (λ (s : List ℕ). total (n ∷ h ∷ l ∷ t ∷ s) % 256 ≡ 0) (sym split) sum);
      size = taken n s e;
    }

pub parts : (bytes : List ℕ) → all_bytes bytes ≡ true → length bytes ≡ length_in bytes + 5 → total bytes % 256 ≡ 0 → Parts bytes
unfolding length_in
parts [] all e sum = let z : ⊥ = omega (arith, e) in absurd z
parts (n ∷ []) all e sum = let z : ⊥ = omega (arith, e) in absurd z
parts (n ∷ h ∷ []) all e sum = let z : ⊥ = omega (arith, e) in absurd z
parts (n ∷ h ∷ l ∷ []) all e sum = let z : ⊥ = omega (arith, e) in absurd z
parts (n ∷ h ∷ l ∷ t ∷ s) all e sum = parts_of n h l t s (all_at (n ∷ h ∷ l ∷ t ∷ s) all) (omega (arith, e)) sum

shape_data : (type n address : ℕ) → shape_check type n address ≡ 0 → type ≡ 0 → 1 ≤ n
unfolding shape_check
shape_data zero n address h e = under_zero n 1 29 h
shape_data (suc k) n address h e = let z : ⊥ = omega (arith, e) in absurd z

shape_end : (type n address : ℕ) → shape_check type n address ≡ 0 → type ≡ 1 → (n ≡ 0) × (address ≡ 0)
unfolding shape_check
shape_end zero n address h e = let z : ⊥ = omega (arith, e) in absurd z
shape_end (suc zero) n address h e =
    let both = first_zero (differ n 0 30) (differ address 0 30) h in
    (differ_zero n 0 29 both.0, differ_zero address 0 29 both.1)
shape_end (suc (suc k)) n address h e = let z : ⊥ = omega (arith, e) in absurd z

-- what the checks say of a line's bytes
pub record Formed (bytes : List ℕ) : Type 0 where
  pub all : all_bytes bytes ≡ true
  pub size : length bytes ≡ length_in bytes + 5
  pub sum : total bytes % 256 ≡ 0
  pub shape : shape_check (type_in bytes) (length_in bytes) (address_in bytes) ≡ 0

pub formed : (bytes : List ℕ) → form_check bytes ≡ 0 → Formed bytes
unfolding form_check first_in
formed bytes h =
    let a = first_zero _ _ h in
    let b = first_zero _ _ a.1 in
    let c = first_zero _ _ b.1 in
    let d = first_zero _ _ c.1 in
    record { all = unless_zero _ 29 a.0; size = differ_zero _ _ 29 b.0; sum = differ_zero _ _ 29 c.0; shape = d.0 }

pub colon : (body : List ℕ) → Formed (line_bytes body) → body ≡ 0x3A ∷ drop 1 body
unfolding line_bytes length_in
colon [] h = let z : ⊥ = omega (arith, h.size) in absurd z
colon (c ∷ rest) h = go (eqb c 0x3A) refl h
  where
    go : (t : Bool) → eqb c 0x3A ≡ t → Formed (cond t (pairs rest) []) → c ∷ rest ≡ 0x3A ∷ rest
    go true e h = ap (λ (c : ℕ). c ∷ rest) (eqb-true c 0x3A e)
    go false e h = let z : ⊥ = omega (arith, h.size) in absurd z

colon_line : (rest : List ℕ) → Formed (pairs rest) →
    Line (0x3A ∷ (rest ++ 0x0A ∷ [])) (address_in (pairs rest)) (type_in (pairs rest)) (data_in (pairs rest))
colon_line rest h =
    let bytes = pairs rest in
    let p = parts bytes h.all h.size h.sum in
    let s = spelt rest h.all in
    record {
      digits = s.digits;
      ending = s.ending;
      is = ap (λ (l : List ℕ). 0x3A ∷ l) s.is;
      spells = subst (Spells s.digits) p.is s.spells;
      ends = s.ends;
      some = λ e. rw p.size (shape_data (type_in bytes) (length_in bytes) (address_in bytes) h.shape e);
      bare = λ e. rw p.size (shape_end (type_in bytes) (length_in bytes) (address_in bytes) h.shape e);
    }

LineAt : List ℕ → Type 0
LineAt l = Line (l ++ 0x0A ∷ []) (address_in (line_bytes l)) (type_in (line_bytes l)) (data_in (line_bytes l))

colon_at : (rest : List ℕ) → Formed (line_bytes (0x3A ∷ rest)) → LineAt (0x3A ∷ rest)
unfolding line_bytes LineAt
colon_at rest h = colon_line rest h

pub formed_line : (body : List ℕ) → form_check (line_bytes body) ≡ 0 →
    Line (body ++ 0x0A ∷ []) (address_in (line_bytes body)) (type_in (line_bytes body)) (data_in (line_bytes body))
unfolding LineAt
formed_line body h =
    let f = formed (line_bytes body) h in
    subst LineAt (sym (colon body f)) (colon_at (drop 1 body) (subst (λ (l : List ℕ). Formed (line_bytes l)) (colon body f) f))
