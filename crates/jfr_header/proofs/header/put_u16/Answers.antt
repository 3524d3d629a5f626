use Rattle.std.proofs.Common.{◌-◌, length, arith, refl}
use Rattle.byteorder.specs.Endian.{big_bytes}
use Rattle.jfr_header.proofs.Numbers.{put_front}
use Rattle.jfr_header.proofs.header.put_u16.Goals as goal

pub returns-clause-bytes : goal.returns-clause-bytes
returns-clause-bytes c = rw c.write_u16.ensures (put_front c.args.at 2 (length c.args.into.now - c.args.at) c.args.into.now (big_bytes 2 c.args.value) _ (omega (arith, c.requires)) refl)
