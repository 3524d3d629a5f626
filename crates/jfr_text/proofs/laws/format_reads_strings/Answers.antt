use Rattle.jfr_text.proofs.StringLaws.{string_of_format, format_of_string}
use Rattle.jfr_text.proofs.laws.format_reads_strings.Goals as goal

pub returns : goal.returns
returns c = record { grammar = string_of_format; format = format_of_string }
