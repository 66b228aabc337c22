-- What a record lists, by its count: as the code goes about it, cell by cell.
use Prim.Native.Nat.{ℕ, zero, suc, ◌<◌, ◌≤◌}
use mathlib.Core.Path.{◌≡◌, refl, sym, ap}
use mathlib.Core.Bool.{cond}
use mathlib.Core.List.{List, [], ◌∷◌, map}
use native.Mathlib.Omega.{arith}
use lib.Dec.{eqb, ltb}
use lib.ListN.{length, set, take}
use lib.Seq.{take-nil}
use borrow.Author.Tests.{lt-ltb, le-ltb}
use Rattle.numbers.specs.Checks.{first, both, under, differ}
use Rattle.numbers.specs.Folds.{first_in}
use Rattle.numbers.proofs.Folding.{first_none}
use Rattle.records.specs.Back.{address_check, listed, listed_at, back_refusal, given_back, stepped_back}
use Rattle.records.specs.declared.Record.{Record}
use Rattle.records.specs.declared.SteppedBack.{SteppedBack}

-- a check of a byte that is counted, and of one that is not
counted : (k n check : ℕ) → k < n → both (under k n 26) check ≡ check
unfolding both under
counted k n check h = rw (lt-ltb k n h)

uncounted : (k n check : ℕ) → n ≤ k → both (under k n 26) check ≡ 0
unfolding both under
uncounted k n check h = rw (le-ltb k n h)

-- 26, by the addresses that are counted
check_listed : (n : ℕ) (p q : ℕ × ℕ) →
    first (both (under 0 n 26) (address_check p)) (both (under 1 n 26) (address_check q)) ≡ first_in (map address_check (take n (p ∷ q ∷ [])))
unfolding first_in
check_listed zero p q = rw (uncounted 0 0 (address_check p) (omega arith), uncounted 1 0 (address_check q) (omega arith)) (first_none 0)
check_listed (suc zero) p q = rw (counted 0 1 (address_check p) (omega arith), uncounted 1 1 (address_check q) (omega arith))
check_listed (suc (suc n)) p q =
    rw (
      counted 0 (suc (suc n)) (address_check p) (omega arith),
      counted 1 (suc (suc n)) (address_check q) (omega arith),
      take-nil {A = ℕ × ℕ} n,
    )
    (ap (first (address_check p)) (sym (first_none (address_check q))))

pub refused_by : (r : Record) (memory : List ℕ) →
    first (differ (length memory) 32768 17) (first (under 2 r.count 26)
    (first (both (under 0 r.count 26) (address_check (listed_at r 0))) (both (under 1 r.count 26) (address_check (listed_at r 1))))) ≡ back_refusal r memory
unfolding back_refusal first_in
refused_by r memory =
    rw (check_listed r.count (listed_at r 0) (listed_at r 1))
    (ap (λ k. first (differ (length memory) 32768 17) (first (under 2 r.count 26) k)) (sym (first_none (first_in (map address_check (listed r))))))

-- the bytes that are counted, one after the other
put_listed : (n : ℕ) (p q : ℕ × ℕ) (memory : List ℕ) →
    let one = cond (ltb 0 n) (set memory p.0 p.1) memory in
    cond (ltb 1 n) (set one q.0 q.1) one ≡ given_back memory (take n (p ∷ q ∷ []))
unfolding given_back
put_listed zero p q memory = refl
put_listed (suc zero) p q memory = refl
put_listed (suc (suc n)) p q memory =
    rw (lt-ltb 0 (suc (suc n)) (omega arith), lt-ltb 1 (suc (suc n)) (omega arith), take-nil {A = ℕ × ℕ} n)

pub put_by : (r : Record) (memory one two : List ℕ) →
    one ≡ cond (ltb 0 r.count) (set memory (listed_at r 0).0 (listed_at r 0).1) memory →
    two ≡ cond (ltb 1 r.count) (set one (listed_at r 1).0 (listed_at r 1).1) one →
    two ≡ given_back memory (listed r)
put_by r memory one two first second = rw (second, first) (put_listed r.count (listed_at r 0) (listed_at r 1) memory)

-- whatever the number, the registers are the record's
pub registers_back : (r : Record) (memory : List ℕ) → (stepped_back r memory).0.registers ≡ r.registers
unfolding stepped_back
registers_back r memory = refl

-- the whole
pub back_by : (r : Record) (memory memory' : List ℕ) (number : ℕ) (b : SteppedBack) →
    number ≡ back_refusal r memory → memory' ≡ cond (eqb number 0) (given_back memory (listed r)) memory →
    b ≡ record { number = number; registers = r.registers } → stepped_back r memory ≡ (b, memory')
unfolding stepped_back
back_by r memory memory' number b is put answered = rw (answered, put, is)
