-- A listing in a buffer that has room for any, and in one that has not.
use Prim.Native.Nat.{ℕ, ◌+◌, ◌-◌, ◌≤◌, ◌<◌}
use mathlib.Core.Path.{◌≡◌, ap, ◌∙◌}
use mathlib.Core.List.{List, ◌++◌, append-nil, flat_map}
use native.Mathlib.Nat.{zero-add, le_trans}
use borrow.Author.Tests.{lt-ltb, le-ltb, ne_eqb}
use borrow.Author.Rules.{part_to_end}
use lib.ListN.{length, get_or, take, drop}
use lib.Seq.{sets-eq}
use Rattle.numbers.specs.Computed.{counting}
use Rattle.stm8.specs.declared.Instruction.{Instruction}
use Rattle.disassembly.specs.Text.{text, placed}
use Rattle.std.proofs.Common.{Result, Ok, Err}
use Rattle.disassembly.specs.declared.TooShort.{TooShort}
use Rattle.disassembly.proofs.Placing.{text_placed}
use Rattle.image.specs.Image.{base_of, size_of, limits_of}
use Rattle.code.specs.Code.{instruction_in}
use Rattle.image.specs.Validation.{validated}
use Rattle.image.specs.declared.Limits.{Limits}
use Rattle.image.specs.Validated as Validated
use Rattle.acceptance.specs.Check.{checked}
use Rattle.rules.specs.Verdict.{Verdict}
use Rattle.rules.specs.Verdict.{Accepted, Refused}
use Rattle.listing.specs.Listing.{verdict_line, start_line, line_at, listing, longest, listed, image_in, checked_input}
use Rattle.listing.specs.Internal.{Wrote}

pub listed_short : (image marks buffer : List ℕ) (outcome : Verdict × List ℕ) → length buffer < longest →
    listed image marks buffer outcome ≡ (Err (record {}), marks, buffer)
unfolding listed
listed_short image marks buffer outcome h = rw (lt-ltb (length buffer) longest h)

placed_start : (buffer lines after : List ℕ) (end : ℕ) → Wrote 0 buffer lines end after → length lines ≤ length buffer →
    (end ≡ length lines) × (after ≡ lines ++ drop (length lines) buffer)
placed_start buffer lines after end w h =
    (w.end ∙ zero-add (length lines), w.holds ∙ sets-eq lines buffer 0 (rw (zero-add (length lines)) h) ∙ rw (zero-add (length lines)))

pub listed_fits : (image marks buffer : List ℕ) (outcome : Verdict × List ℕ) → longest ≤ length buffer → length (listing image outcome) ≤ longest →
    (end : ℕ) (marks' buffer' : List ℕ) → Wrote 0 buffer (listing image outcome) end buffer' → marks' ≡ outcome.1 →
    (Ok end, marks', buffer') ≡ listed image marks buffer outcome
unfolding listed
listed_fits image marks buffer outcome room size end marks' buffer' w e =
    let p = placed_start buffer (listing image outcome) buffer' end w (le_trans size room) in
    rw (le-ltb (length buffer) longest room, p.0, p.1, e)

-- the text of an instruction in a part that has room for any
pub text_written : (address : ℕ) (i : Instruction) (part after : List ℕ) (written : Result ℕ TooShort) (n : ℕ) →
    (written, after) ≡ placed (text address i) part → 23 ≤ length part → written ≡ Ok n →
    (n ≡ length (text address i)) × (after ≡ text address i ++ drop (length (text address i)) part)
text_written address i part after written n e room is =
    let p = e ∙ text_placed address i part room in
    let w : written ≡ Ok (length (text address i)) = ap (λ (x : Result ℕ TooShort × List ℕ). x.0) p in
    (cc, ap (λ (x : Result ℕ TooShort × List ℕ). x.1) p)

pub text_fits : (address : ℕ) (i : Instruction) (part after : List ℕ) (written : Result ℕ TooShort) {error : TooShort} →
    (written, after) ≡ placed (text address i) part → 23 ≤ length part → written ≡ Err error → ⊥
text_fits address i part after written e room is =
    let w : written ≡ Ok (length (text address i)) = ap (λ (x : Result ℕ TooShort × List ℕ). x.0) (e ∙ text_placed address i part room) in
    absurd cc

-- the line of a start
pub line_start : (image marks : List ℕ) (offset mark : ℕ) → mark ≡ get_or marks offset 0 → (mark ≡ 0 → ⊥) →
    start_line (base_of image + offset) (mark - 1) (instruction_in image offset) ≡ line_at image marks offset
unfolding line_at
line_start image marks offset mark is some = rw (← is, ne_eqb mark 0 some)

-- the parts of a listing
module _ (image marks : List ℕ) (outcome : Verdict × List ℕ) where
  pub accepted_listing : (v : Verdict) {need count : ℕ} → outcome ≡ (v, marks) → v ≡ Accepted need count →
      verdict_line v ++ flat_map (line_at image marks) (counting (size_of image) 0) ≡ listing image outcome
  unfolding listing
  accepted_listing v e is = rw (e, is)

  pub refused_listing : (v : Verdict) {number offset : ℕ} → outcome ≡ (v, marks) → v ≡ Refused number offset → verdict_line v ≡ listing image outcome
  unfolding listing
  refused_listing v e is = rw (e, is, append-nil)

pub checked_refused : (image : List ℕ) (limits : Limits) (marks : List ℕ) (number : ℕ) → validated image limits ≡ Validated.Refused number →
    checked image limits marks ≡ (Refused number 0, marks)
unfolding checked
checked_refused image limits marks number e = rw e

pub input_short : (input marks : List ℕ) → length input < 12 → checked_input input marks ≡ (Refused 1 0, marks)
unfolding checked_input
input_short input marks h = rw (lt-ltb (length input) 12 h)

pub input_whole : (input marks : List ℕ) → 12 ≤ length input → checked_input input marks ≡ checked (image_in input) (limits_of input) marks
unfolding checked_input
input_whole input marks h = rw (le-ltb (length input) 12 h)

pub input_listed : (input marks buffer : List ℕ) (limits : Limits) → 12 ≤ length input → limits ≡ limits_of input →
    listed (take (length input - 12) (drop 12 input)) marks buffer (checked (take (length input - 12) (drop 12 input)) limits marks) ≡
    listed (image_in input) marks buffer (checked_input input marks)
input_listed input marks buffer limits h e = rw (part_to_end input 12, e, input_whole input marks h)
