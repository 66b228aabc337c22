-- `records::back::refusal` meets its contract.
use Rattle.records.proofs.GivingBack.{refused_by}
use Rattle.records.proofs.back.refusal.Goals as goal

pub returns : goal.returns
returns c =
    rw (
      c.first-2.ensures,
      c.first.ensures,
      c.first-addresses.ensures,
      c.address_check-2.ensures,
      c.address_check.ensures,
      c.under-count.ensures,
      c.differ-size.ensures,
    )
    (refused_by c.args.given c.args.memory.now)
