-- The statuses and the lines of some endings.
use Rattle.std.specs.Prelude.{◌≡◌, codes, None, Some, refl}
use Rattle.std.specs.Fmt.{digits}
use Rattle.jfr_base.specs.declared.reason.Reason.TheVariants.{NoChunk, PoolType, Trailing}
use Rattle.jfr_header.specs.declared.ending.Ending.TheVariants.{Done, Refused, ReadFault, WriteFault, TooManyParts, MaskTooLong, Memory}
use Rattle.jfr_cli.specs.Answers.{line_of, status_of, usage_line}

usage_row : usage_line ≡ codes "usage: jfr print|summary|metadata|scrub|disassemble|assemble|sample|receipt|verify|build|stacks|mask\n"
usage_row = refl

done_row : status_of Done ≡ 0
done_row = refl

done_line_row : line_of Done ≡ None
done_line_row = refl

no_chunk_row : line_of (Refused (record { chunk = 1; offset = 0; reason = NoChunk })) ≡ Some (codes "chunk 1 offset 0: NoChunk\n")
unfolding digits
no_chunk_row = refl

refusal_row : line_of (Refused (record { chunk = 12; offset = 1048576; reason = PoolType })) ≡ Some (codes "chunk 12 offset 1048576: PoolType\n")
unfolding digits
refusal_row = refl

refused_row : status_of (Refused (record { chunk = 3; offset = 70; reason = Trailing })) ≡ 2
refused_row = refl

read_row : line_of ReadFault ≡ Some (codes "read fault\n")
read_row = refl

read_status_row : status_of ReadFault ≡ 3
read_status_row = refl

write_row : line_of WriteFault ≡ Some (codes "write fault\n")
write_row = refl

write_status_row : status_of WriteFault ≡ 4
write_status_row = refl

memory_row : line_of Memory ≡ Some (codes "out of memory\n")
memory_row = refl

memory_status_row : status_of Memory ≡ 5
memory_status_row = refl

parts_row : line_of TooManyParts ≡ Some (codes "too many parts\n")
parts_row = refl

parts_status_row : status_of TooManyParts ≡ 6
parts_status_row = refl

long_row : line_of (MaskTooLong 3) ≡ Some (codes "chunk 3: MaskTooLong\n")
unfolding digits
long_row = refl

long_status_row : status_of (MaskTooLong 3) ≡ 9
long_status_row = refl
