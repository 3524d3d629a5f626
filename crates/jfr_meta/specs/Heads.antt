-- The integers at the start of a body, and a body that was read.
use Rattle.std.specs.Prelude.{ℕ, Result, Ok, Err}
use Rattle.jfr_base.specs.declared.flaw.Flaw.{Flaw}
use Rattle.jfr_base.specs.Formats.{Format, Done, ◌>>=◌, Answer, integer}
use Rattle.jfr_meta.specs.declared.body.Head.{Head}
use Rattle.jfr_meta.specs.declared.body.Body as read
use Rattle.jfr_meta.specs.Body.{Body}

-- The format of the start, the duration, the id and the number of strings.
abbrev pub head_format : Format (ℕ × ℕ × ℕ × ℕ)
head_format = integer >>= λ start. integer >>= λ duration. integer >>= λ id. integer >>= λ count. Done (start, duration, id, count)

-- The result of reading these integers, as the format's answer.
abbrev pub head_answer : Result Head Flaw → Answer (ℕ × ℕ × ℕ × ℕ)
head_answer (Ok h) = Ok (record { value = (h.start, h.duration, h.id, h.count); place = h.end })
head_answer (Err e) = Err e

-- The body that was read, as a value in contracts.
abbrev pub body_value : read.Body → Body
body_value b = record { start = b.start; duration = b.duration; id = b.id; strings = b.strings; root = b.root }
