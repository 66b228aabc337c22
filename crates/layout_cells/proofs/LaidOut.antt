-- An image is refused by itself, or laid out, as it is under any limits that break no rule.
use Rattle.std.proofs.Common.{◌≡◌, ℕ, List}
use Rattle.image.specs.Validation.{limits_check, validated, laid_out}
use Rattle.image.specs.declared.Limits.{Limits}
use Rattle.image.proofs.Alone.{laid_under}

pub laid_out_lem : (image : List ℕ) (limits : Limits) → limits_check limits ≡ 0 → validated image limits ≡ laid_out image
laid_out_lem = laid_under
