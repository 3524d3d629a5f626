use Rattle.std.proofs.Common.{refl}
use Rattle.jfr_header.proofs.header.fields.Goals as goal

pub returns : goal.returns
returns c = rw (
  c.u16_at.ensures,
  c.u16_at-2.ensures,
  c.u64_at.ensures,
  c.u64_at-2.ensures,
  c.u64_at-3.ensures,
  c.u64_at-4.ensures,
  c.u64_at-5.ensures,
  c.u64_at-6.ensures,
  c.u64_at-7.ensures,
  c.u16_at-3.ensures,
) refl
