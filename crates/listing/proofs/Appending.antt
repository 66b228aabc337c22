-- Laws of bytes that are written one after the other.
use Prim.Native.Nat.{ℕ, zero, suc, ◌+◌, ◌-◌, ◌≤◌}
use mathlib.Core.Path.{◌≡◌, refl, sym, ap, ◌∙◌}
use mathlib.Core.List.{List, [], ◌∷◌, ◌++◌, append_assoc, append-nil, flat_map}
use native.Mathlib.Nat.{add-zero, zero-add, le_refl}
use native.Mathlib.Numerals.{add-one}
use native.Mathlib.Omega.{arith}
use borrow.Author.Rules.{part_to_end}
use borrow.Rule.Slice.PartMut.{put_mid, Post-is}
use lib.ListN.{length, set, take, drop, length-append, length-drop, drop_of_length-le}
use lib.Seq.{sets, length-sets, sets-eq, drop-drop}
use Rattle.numbers.specs.Computed.{counting}
use Rattle.listing.specs.Internal.{Wrote}

sets_append : (buffer : List ℕ) (at : ℕ) (s t : List ℕ) → sets (sets buffer at s) (at + length s) t ≡ sets buffer at (s ++ t)
sets_append buffer at [] t = rw (add-zero at)
sets_append buffer at (b ∷ s) t =
    let next : at + suc (length s) ≡ suc at + length s = omega arith in
    rw next (sets_append (set buffer at b) (suc at) s t)

sets_joined : (from middle : ℕ) (b₀ b₁ b₂ s t : List ℕ) → middle ≡ from + length s → b₁ ≡ sets b₀ from s → b₂ ≡ sets b₁ middle t →
    b₂ ≡ sets b₀ from (s ++ t)
sets_joined from middle b₀ b₁ b₂ s t e f g = g ∙ rw (f, e) (sets_append b₀ from s t)

-- what is written first, and what is written after it
infixl 5 ◌then◌
pub ◌then◌ : {from middle to : ℕ} {b₀ b₁ b₂ s t : List ℕ} → Wrote from b₀ s middle b₁ → Wrote middle b₁ t to b₂ → Wrote from b₀ (s ++ t) to b₂
◌then◌ {from} {middle} {to} {b₀} {b₁} {b₂} {s} {t} p q = record {
  end = omega (arith, p.end, q.end, length-append s t);
  room = q.room ∙ p.room;
  holds = sets_joined from middle b₀ b₁ b₂ s t p.end p.holds q.holds;
  within = q.within;
}

pub wrote_none : (at : ℕ) (buffer : List ℕ) → at ≤ length buffer → Wrote at buffer [] at buffer
wrote_none at buffer h = record { end = sym (add-zero at); room = refl; holds = refl; within = h }

-- bytes that were put to a part as long as they are
pub wrote_part : (at : ℕ) (buffer s : List ℕ) → at + length s ≤ length buffer → Wrote at buffer s (at + length s) (put_mid at (at + length s - at) buffer s)
wrote_part at buffer s room =
    let all : put_mid at (at + length s - at) buffer s ≡ sets buffer at s =
    ap (λ (rest : List ℕ). take at buffer ++ (s ++ rest)) (Post-is at (at + length s) buffer (omega arith)) ∙ sym (sets-eq s buffer at room ∙ append_assoc (take at buffer) s _) in
    record { end = refl; room = ap length all ∙ length-sets buffer at s; holds = all; within = rw (all, length-sets buffer at s) room }

-- bytes that were put to the start of the part from an index on
pub wrote_front : (from n : ℕ) (buffer s part : List ℕ) → from + length s ≤ length buffer → n ≡ length s →
    part ≡ s ++ drop (length s) (take (length buffer - from) (drop from buffer)) →
    Wrote from buffer s (from + n) (take from buffer ++ (part ++ drop (length buffer - from) (drop from buffer)))
wrote_front from n buffer s part room size e =
    let end : drop (length buffer - from) (drop from buffer) ≡ [] =
    drop_of_length-le (drop from buffer) {i = length buffer - from} (rw (length-drop from buffer) (le_refl _)) in
    let all : sets buffer from s ≡ take from buffer ++ (part ++ drop (length buffer - from) (drop from buffer)) =
    sets-eq s buffer from room ∙ rw (end, append-nil, e, part_to_end buffer from, drop-drop, append_assoc) in
    let same : length (take from buffer ++ (part ++ drop (length buffer - from) (drop from buffer))) ≡ length buffer = ap length (sym all) ∙ length-sets buffer from s in
    record {
      end = ap (λ k. from + k) size;
      room = same;
      holds = sym all;
      within = omega (arith, same, size, room);
    }

-- one number more
lines_more : (f : ℕ → List ℕ) (n i : ℕ) → flat_map f (counting (suc n) i) ≡ flat_map f (counting n i) ++ f (i + n)
unfolding flat_map
lines_more f zero i = rw (add-zero i) (append-nil (f i))
lines_more f (suc n) i =
    let next : suc i + n ≡ i + suc n = omega arith in
    rw (lines_more f n (suc i), next, append_assoc)

pub lines_next : (f : ℕ → List ℕ) (n : ℕ) → flat_map f (counting (n + 1) 0) ≡ flat_map f (counting n 0) ++ f n
lines_next f n = rw add-one (lines_more f n 0 ∙ rw (zero-add n))
